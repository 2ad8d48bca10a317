-- Score and pair: the sheet is the sector's, the pairing call does not refuse it, and the check accepts what it gives.
use Prim.Native.Nat.{ℕ, ◌*◌}
use mathlib.Core.Path.{◌≡◌, sym, ap, ◌∙◌}
use mathlib.Core.List.{List, ◌++◌}
use native.Mathlib.Nat.{le_of_eq, le_refl}
use lib.ListN.{length, drop}
use Rattle.matching.specs.Answer.{Sizes, sheet_refusal}
use Rattle.matching.proofs.Theorems.{ready_is_not_refused, zero_certificate}
use Rattle.engine.specs.Call.{Paired, SheetPaired, PairsSheet}
use Rattle.intake.specs.Refusals.{Input, Ready}
use Rattle.scoresheet.specs.Cells.{cells_of, tracks_of, reports_of, sector_sheet}
use Rattle.scoresheet.specs.Ready.{RowsReady}
use Rattle.scoresheet.proofs.Rows.{nothing_beyond}
use Rattle.scoresheet.proofs.SheetLaws.{cells_length, sheet_in_range}
use Rattle.sector.specs.Steps.{Pairable, PairedOff}

module _ (i : Input) (due sheet p u v : List ℕ) (r : Ready i) (q : Pairable i due sheet p u v) where
  due_count : length due ≡ tracks_of i
  unfolding tracks_of
  due_count = ap length q.due_is

  pub rows_room : RowsReady i due sheet
  unfolding reports_of
  rows_room = record { due_is = q.due_is; room = rw (due_count, q.cell_each) (le_refl _) }

  -- the cells fill the sheet
  cells_fill : (sheet' : List ℕ) → sheet' ≡ cells_of i ++ drop (length due * length i.batch) sheet → sheet' ≡ cells_of i
  unfolding reports_of
  cells_fill sheet' e = e ∙ nothing_beyond (length due * length i.batch) (cells_of i) sheet (rw (due_count, q.cell_each) (le_refl _))

  sizes : Sizes (tracks_of i) (reports_of i) (length (cells_of i)) (length p) (length u) (length v)
  unfolding tracks_of reports_of
  sizes = record {
    tracks_few = r.few_due;
    reports_few = r.few_reports;
    cells_long = le_of_eq (sym (cells_length i));
    pairing_long = le_of_eq (sym q.number_room);
    prices_long = le_of_eq (sym q.price_room);
    discounts_long = q.discount_room;
  }

  not_refused : sheet_refusal (tracks_of i) (reports_of i) (cells_of i) (length p) (length u) (length v) 0 ≡ 0
  unfolding sector_sheet
  not_refused = ready_is_not_refused (tracks_of i) (reports_of i) (cells_of i) (length p) (length u) (length v) sizes (sheet_in_range i r)

  pub paired_off : (sheet' p' u' v' : List ℕ) (answer : Paired) → sheet' ≡ cells_of i ++ drop (length due * length i.batch) sheet → length p' ≡ length p → length u' ≡ length u → PairsSheet (length due) (length i.batch) sheet' p u v p' u' v' answer → PairedOff i due sheet' p' u' v v'
  unfolding reports_of sector_sheet
  paired_off sheet' p' u' v' answer e lp lu w =
      let full : sheet' ≡ cells_of i = cells_fill sheet' e in
      let mine : PairsSheet (tracks_of i) (length i.batch) (cells_of i) p u v p' u' v' answer = rw (due_count, full) at w in
      let s : SheetPaired (tracks_of i) (length i.batch) (cells_of i) p u v p' u' v' = mine.served not_refused in
      let z = zero_certificate (tracks_of i) (length i.batch) (cells_of i) p' u' v' s.accepted in
      record {
        up = record { due_is = q.due_is; sheet_is = full; number_each = lp ∙ q.number_room; price_each = lu ∙ q.price_room; valid = z.1.valid };
        accepted = s.accepted;
        beyond = s.discounts_beyond;
      }
