-- A served call, put together from its steps.
use Prim.Native.Nat.{ℕ}
use mathlib.Core.Path.{◌≡◌, refl, sym, ◌∙◌}
use mathlib.Core.List.{List, ◌++◌}
use native.Mathlib.Nat.{le_of_eq}
use lib.ListN.{length, take, drop, take-append-drop}
use lib.Seq.{length-take-le, get_or-take}
use Rattle.numbers.specs.Sectors.{next_sector}
use Rattle.matching.specs.Answer.{Fits}
use Rattle.matching.proofs.Theorems.{beyond_is_not_read, zero_certificate}
use Rattle.intake.specs.Refusals.{Input}
use Rattle.scoresheet.specs.Cells.{cells_of, tracks_of, reports_of}
use Rattle.sector.specs.declared.Counts.{Counts}
use Rattle.sector.specs.Steps.{PairedOff}
use Rattle.sector.specs.Settled.{SettledAs}
use Rattle.sector.specs.Serve.{lent, Chosen, Choice, after_of, ServedWith}

module _ (i : Input) (due sheet p u v v' : List ℕ) (w : PairedOff i due sheet p u v v') where
  -- the discounts of the batch's reports
  mine : List ℕ
  mine = take (reports_of i) v'

  fit : Fits (tracks_of i) (reports_of i) (cells_of i) p u v'
  fit = (zero_certificate (tracks_of i) (reports_of i) (cells_of i) p u v' w.accepted).0

  mine_count : length mine ≡ reports_of i
  unfolding mine
  mine_count = length-take-le (reports_of i) v' fit.discounts_long

  fit_mine : Fits (tracks_of i) (reports_of i) (cells_of i) p u mine
  fit_mine = record {
    tracks_few = fit.tracks_few;
    reports_few = fit.reports_few;
    cells_long = fit.cells_long;
    pairing_long = fit.pairing_long;
    prices_long = fit.prices_long;
    discounts_long = le_of_eq (sym mine_count);
  }

  abbrev choose : Chosen
  choose = record { pairing = p; prices = u; discounts = mine }

  choice : Choice i choose
  unfolding mine
  choice = record {
    number_each = w.up.number_each;
    price_each = w.up.price_each;
    discount_each = mine_count;
    accepted =
        sym (beyond_is_not_read (tracks_of i) (reports_of i) (cells_of i) (cells_of i) p p u u v' mine fit fit_mine (λ k h. refl) (λ k h. refl) (λ k h. refl) (λ k h. sym (get_or-take (reports_of i) v' k 0 h)))
        ∙ w.accepted;
  }

  pub served_with : {fates slots shown prices : List ℕ} {table' : List (List ℕ)} {fates' slots' shown' w' prices' : List ℕ} {counts : Counts} → SettledAs i p u (lent i.table i.sector fates slots shown v' prices) (lent table' i.sector fates' slots' shown' w' prices') counts → ServedWith i (lent i.table i.sector fates slots shown v prices) (lent table' (next_sector i.sector) fates' slots' shown' w' prices') counts
  unfolding after_of mine
  served_with s =
      let d : take (reports_of i) v' ++ drop (reports_of i) v ≡ v' = rw (← w.beyond) (take-append-drop (reports_of i) v') in
      record {
        chosen = choose;
        choice = choice;
        counted = s.count;
        left = rw (s.table, s.fate, s.slot, s.show, s.discount, s.price, d);
      }
