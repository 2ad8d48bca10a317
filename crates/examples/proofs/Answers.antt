-- The check's numbers, each met once, by computation: on 01's sheet of two tracks and two reports, where it serves.
use Prim.Native.Nat.{ℕ, ◌+◌, ◌*◌}
use mathlib.Core.Path.{◌≡◌, refl}
use mathlib.Core.Bool.{Bool, true, false, cond}
use mathlib.Core.List.{List, [], ◌∷◌}
use native.Mathlib.Omega.{arith}
use native.Mathlib.Nat.{not-suc-le-zero}
use lib.Dec.{eqb}
use borrow.Author.Tests.{eqb-false}
use Rattle.laws.specs.Sums.{sum}
use Rattle.laws.specs.Tests.{each, holds}
use Rattle.laws.specs.Lists.{at}
use Rattle.matching.specs.Pairing.{none, score_end, left_out, total, Certificate, sheet_of}
use Rattle.matching.specs.Answer.{sizes_ok, cells_ok, pairing_ok, numbers_ok, scores_ok, totals_ok, sheet_refusal, check_answer}
use Rattle.matching.proofs.Theorems.{zero_certificate}
use Rattle.examples.specs.Starred.{cells, crossed, prices, discounts}

-- one track, no report: the check accepts no price but one
pub alone_price : (s p u v : List ℕ) → check_answer 1 0 s p u v ≡ 0 → at u 0 ≡ left_out
unfolding total sum
alone_price s p u v e = go (eqb (at p 0) none) refl c.totals
  where
    c : Certificate (sheet_of 1 0 s) (at p) (at u) (at v)
    c = (zero_certificate 1 0 s p u v e).1

    go : (b : Bool) → eqb (at p 0) none ≡ b → 0 + at u 0 ≡ 0 + cond b left_out (at s (0 * 0 + at p 0)) + 0 → at u 0 ≡ left_out
    go true f h = omega arith
    go false f h = absurd (not-suc-le-zero (c.valid.there 0 (omega arith) (eqb-false (at p 0) none f)))

-- nearest report first, track by track: track 0 takes report 0, and track 1 is left out
pub nearest_first_lem : check_answer 2 2 cells (0 ∷ none ∷ []) prices discounts ≡ 26
unfolding check_answer sheet_refusal sizes_ok holds cells_ok pairing_ok numbers_ok scores_ok totals_ok each total sum
nearest_first_lem = refl

pub too_short : check_answer 2 2 (10 ∷ 20 ∷ 12 ∷ []) crossed prices discounts ≡ 21
unfolding check_answer sheet_refusal sizes_ok holds
too_short = refl

pub too_many : check_answer 101 0 [] [] [] [] ≡ 21
unfolding check_answer sheet_refusal sizes_ok holds
too_many = refl

pub not_a_score : check_answer 2 2 (10 ∷ score_end ∷ 12 ∷ none ∷ []) crossed prices discounts ≡ 22
unfolding check_answer sheet_refusal sizes_ok holds cells_ok each
not_a_score = refl

pub report_twice : check_answer 2 2 cells (0 ∷ 0 ∷ []) prices discounts ≡ 23
unfolding check_answer sheet_refusal sizes_ok holds cells_ok pairing_ok each
report_twice = refl

pub not_admissible_lem : check_answer 2 2 cells (0 ∷ 1 ∷ []) prices discounts ≡ 23
unfolding check_answer sheet_refusal sizes_ok holds cells_ok pairing_ok each
not_admissible_lem = refl

pub price_too_high : check_answer 2 2 cells crossed ((left_out + 1) ∷ 22 ∷ []) discounts ≡ 24
unfolding check_answer sheet_refusal sizes_ok holds cells_ok pairing_ok numbers_ok each
price_too_high = refl

pub above_a_score : check_answer 2 2 cells crossed (21 ∷ 22 ∷ []) discounts ≡ 25
unfolding check_answer sheet_refusal sizes_ok holds cells_ok pairing_ok numbers_ok scores_ok each
above_a_score = refl

pub longer : check_answer 1 1 (10 ∷ score_end ∷ []) (0 ∷ 7 ∷ []) (10 ∷ none ∷ []) (0 ∷ none ∷ []) ≡ 0
unfolding check_answer sheet_refusal sizes_ok holds cells_ok pairing_ok numbers_ok scores_ok totals_ok each total sum
longer = refl
