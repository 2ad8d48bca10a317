-- The call's two ends: refused, or served by what the engine gives for the sheet's own cells.
use Prim.Native.Nat.{ℕ, ◌*◌, ◌<◌}
use mathlib.Core.Path.{◌≡◌, refl, ap, sym, ◌∙◌}
use mathlib.Core.Bool.{true}
use mathlib.Core.List.{List, ◌++◌}
use mathlib.Core.Logic.{inl, inr, ⊎_elim}
use native.Mathlib.Omega.{arith}
use lib.Dec.{eqb, ltb}
use lib.ListN.{length, take, drop, length-append, get_or-append}
use lib.Seq.{drop_at, get_or-take, length-take-le}
use borrow.Author.Tests.{ne_eqb, ltb-true}
use Rattle.std.specs.Prelude.{Ok}
use Rattle.std.specs.Result.{IsErrAnd}
use Rattle.std.proofs.lemmas.Result.{err_from_is_err_and}
use Rattle.laws.proofs.Stores.{same_or}
use Rattle.laws.proofs.Tests.{or_second, each_at}
use Rattle.laws.specs.Lists.{at}
use Rattle.matching.specs.Pairing.{none, score_end}
use Rattle.matching.specs.declared.Fault.{Fault}
use Rattle.matching.specs.Answer.{Sizes, Fits, cell_ok, cells_ok, check_answer, fault_number, check_number}
use Rattle.matching.proofs.Facts.{cells_ok_lem, answer_back, no_zero}
use Rattle.matching.proofs.Theorems.{not_refused, certificate_zero, beyond_is_not_read}
use Rattle.passes.specs.Cells.{IsCell}
use Rattle.engine.specs.Call.{pairing_refusal, Paired, paired_by, SheetPaired, PairsSheet}
use Rattle.engine.specs.State.{Tested, Certified}

is_cell : (c : ℕ) → cell_ok c ≡ true → IsCell c
is_cell c e =
    ⊎_elim inr (λ d. inl (ltb-true c score_end (or_second (eqb c none) (ltb c score_end) e (ne_eqb c none d)))) (same_or c none)

module _ (n m : ℕ) (cells pairing prices discounts : List ℕ) where
  pub refuses : (a : Paired) (told : Fault) → IsErrAnd a (λ f. f ≡ told) → fault_number told ≡ pairing_refusal n m cells pairing prices discounts → PairsSheet n m cells pairing prices discounts pairing prices discounts a
  refuses a told h e =
      let w = err_from_is_err_and a h in
      let number : check_number a ≡ pairing_refusal n m cells pairing prices discounts = rw (w.1, w.2) e in
      record {
        answered = sym (answer_back a) ∙ ap paired_by number;
        refused = λ z. (refl, (refl, refl));
        served = λ z. absurd (no_zero told (e ∙ z));
      }

  module _ (e : pairing_refusal n m cells pairing prices discounts ≡ 0) where
    pub sizes : Sizes n m (length cells) (length pairing) (length prices) (length discounts)
    sizes = (not_refused n m cells (length pairing) (length prices) (length discounts) e).0

    cells_good : (k : ℕ) → k < n * m → IsCell (at cells k)
    unfolding cells_ok
    cells_good k h =
        let r = (not_refused n m cells (length pairing) (length prices) (length discounts) e).1 in
        is_cell (at cells k) (each_at (λ i. cell_ok (at cells i)) (n * m) k (cells_ok_lem n m cells r) h)

    abbrev own : List ℕ
    own = take (n * m) cells

    own_length : length own ≡ n * m
    own_length = length-take-le (n * m) cells sizes.cells_long

    prices_length : length (take n prices) ≡ n
    prices_length = length-take-le n prices sizes.prices_long

    own_at : (k : ℕ) → k < n * m → at own k ≡ at cells k
    own_at k h = get_or-take (n * m) cells k 0 h

    pub tested : Tested own m (take n pairing) (take n prices) (take m discounts)
    tested =
        record {
          cells_long = own_length ∙ ap (λ (x : ℕ). x * m) (sym prices_length);
          pairing_long = length-take-le n pairing sizes.pairing_long ∙ sym prices_length;
          discounts_long = length-take-le m discounts sizes.discounts_long;
          tracks_few = omega (arith, prices_length, sizes.tracks_few);
          reports_few = omega (arith, sizes.reports_few);
          cells_good = λ k h. let g : k < n * m = omega (arith, own_length) in rw (own_at k g) (cells_good k g);
        }

    module _ (pairing' prices' discounts' : List ℕ) (C : Certified own m n pairing' prices' discounts') where
      fits : Fits n m own pairing' prices' discounts'
      fits =
          record {
            tracks_few = sizes.tracks_few;
            reports_few = sizes.reports_few;
            cells_long = omega (arith, own_length);
            pairing_long = omega (arith, C.pairing_long);
            prices_long = omega (arith, C.prices_long);
            discounts_long = omega (arith, C.discounts_long);
          }

      -- what is written, and what stood beyond
      fits_whole : Fits n m cells (pairing' ++ drop n pairing) (prices' ++ drop n prices) (discounts' ++ drop m discounts)
      fits_whole =
          record {
            tracks_few = sizes.tracks_few;
            reports_few = sizes.reports_few;
            cells_long = sizes.cells_long;
            pairing_long = omega (arith, C.pairing_long, length-append pairing' (drop n pairing));
            prices_long = omega (arith, C.prices_long, length-append prices' (drop n prices));
            discounts_long = omega (arith, C.discounts_long, length-append discounts' (drop m discounts));
          }

      first : (k : ℕ) (xs ys : List ℕ) → length xs ≡ k → (i : ℕ) → i < k → at xs i ≡ at (xs ++ ys) i
      first k xs ys l i h = sym (get_or-append xs ys 0 i (omega arith))

      accepted : check_answer n m cells (pairing' ++ drop n pairing) (prices' ++ drop n prices) (discounts' ++ drop m discounts) ≡ 0
      accepted =
          sym
          (beyond_is_not_read n m own cells pairing' (pairing' ++ drop n pairing) prices' (prices' ++ drop n prices) discounts' (discounts' ++ drop m discounts) fits fits_whole own_at
          (first n pairing' (drop n pairing) C.pairing_long) (first n prices' (drop n prices) C.prices_long) (first m discounts' (drop m discounts) C.discounts_long))
          ∙ certificate_zero n m own pairing' prices' discounts' fits C.shown

      served : SheetPaired n m cells pairing prices discounts (pairing' ++ drop n pairing) (prices' ++ drop n prices) (discounts' ++ drop m discounts)
      served =
          record {
            accepted = accepted;
            pairing_beyond = drop_at pairing' (drop n pairing) n C.pairing_long;
            prices_beyond = drop_at prices' (drop n prices) n C.prices_long;
            discounts_beyond = drop_at discounts' (drop m discounts) m C.discounts_long;
          }

    pub serves : (pairing' prices' discounts' : List ℕ) → Certified own m (length (take n prices)) pairing' prices' discounts' → PairsSheet n m cells pairing prices discounts (pairing' ++ drop n pairing) (prices' ++ drop n prices) (discounts' ++ drop m discounts) (Ok tt)
    serves pairing' prices' discounts' C =
        record {
          answered = sym (ap paired_by e);
          refused = λ d. absurd (d e);
          served = λ z. served pairing' prices' discounts' (rw prices_length at C);
        }
