-- The check's answer depends on no entry beyond those that its sheet, pairing, prices and discounts need.
use Prim.Native.Nat.{ℕ, ◌+◌, ◌*◌, ◌<◌}
use mathlib.Core.Path.{◌≡◌, refl, sym, ap, ◌∙◌}
use mathlib.Core.Bool.{Bool, true, false, cond, not, ◌||◌}
use mathlib.Core.List.{List}
use native.Mathlib.Nat.{lt_trans, le_of_eq}
use lib.Arith.{digits_lt}
use lib.Dec.{ltb, leb, eqb}
use lib.ListN.{length, take}
use Rattle.std.proofs.lemmas.List.{get_or-take, length-take-le}
use borrow.Author.Tests.{ltb-true, eqb-false}
use Rattle.laws.proofs.Tests.{each_same, refuse_same, and_same}
use Rattle.laws.proofs.Sums.{sum_same}
use Rattle.laws.specs.Lists.{at}
use Rattle.matching.specs.Pairing.{none, left_out, total, Alike, sheet_of}
use Rattle.matching.specs.Answer.{Fits, cell_ok, cells_ok, entry_ok, pairing_ok, numbers_ok, scores_ok, totals_ok, sheet_refusal, check_answer}
use Rattle.matching.proofs.Facts as facts

module _ (n m : ℕ) (s s' : List ℕ) (c : Alike (n * m) (at s) (at s')) where
  -- the cell of track i and report j
  cell_same : (i j : ℕ) → i < n → j < m → at s (i * m + j) ≡ at s' (i * m + j)
  cell_same i j li lj = c (i * m + j) (digits_lt li lj)

  cells_same : cells_ok (n * m) s ≡ cells_ok (n * m) s'
  unfolding cells_ok
  cells_same = each_same _ _ (n * m) (λ k l. ap cell_ok (c k l))

  module _ (p p' : List ℕ) (a : Alike n (at p) (at p')) where
    entry_same : (i : ℕ) → i < n → entry_ok (sheet_of n m s) (at p) i ≡ entry_ok (sheet_of n m s') (at p') i
    entry_same i l =
        rw (a i l)
        (ap (λ b. eqb (at p' i) none || b)
        (and_same _ _ _ _
        (and_same (ltb (at p' i) m) _ _ _ refl (λ t. ap (λ x. not (eqb x none)) (cell_same i (at p' i) l (ltb-true _ _ t))))
        (λ t. each_same _ _ i (λ k h. ap (λ x. not (eqb x (at p' i))) (a k (lt_trans h l))))))

    pairing_same : pairing_ok (sheet_of n m s) (at p) ≡ pairing_ok (sheet_of n m s') (at p')
    unfolding pairing_ok
    pairing_same = each_same _ _ n entry_same

    total_same : pairing_ok (sheet_of n m s) (at p) ≡ true → total (sheet_of n m s) (at p) ≡ total (sheet_of n m s') (at p')
    unfolding total
    total_same e = sum_same n _ _ (λ i l. rw (← a i l) (counted _ i l (eqb (at p i) none) refl))
      where
        counted : (c i : ℕ) → i < n → (b : Bool) → eqb (at p i) none ≡ b → cond b c (at s (i * m + at p i)) ≡ cond b c (at s' (i * m + at p i))
        counted c i l true f = refl
        counted c i l false f =
            cell_same i (at p i) l ((facts.valid (sheet_of n m s) (at p) e).there i l (eqb-false (at p i) none f))

  module _ (u u' v v' : List ℕ) (a : Alike n (at u) (at u')) (b : Alike m (at v) (at v')) where
    scores_same : scores_ok (sheet_of n m s) (at u) (at v) ≡ scores_ok (sheet_of n m s') (at u') (at v')
    unfolding scores_ok
    scores_same = each_same _ _ n (λ i li. each_same _ _ m (λ j lj. rw (a i li, b j lj, cell_same i j li lj)))

numbers_same : (n : ℕ) (f g : ℕ → ℕ) → Alike n f g → numbers_ok n f ≡ numbers_ok n g
unfolding numbers_ok
numbers_same n f g a = each_same _ _ n (λ i l. ap (λ x. leb x left_out) (a i l))

-- Lists that are long enough, and the same up to where n tracks and m reports need them, have the same answer.
pub beyond_is_not_read : (n m : ℕ) (s s' p p' u u' v v' : List ℕ) → Fits n m s p u v → Fits n m s' p' u' v' → Alike (n * m) (at s) (at s') → Alike n (at p) (at p') → Alike n (at u) (at u') → Alike m (at v) (at v') → check_answer n m s p u v ≡ check_answer n m s' p' u' v'
unfolding check_answer sheet_refusal totals_ok
beyond_is_not_read n m s s' p p' u u' v v' z z' cs ps us vs =
    refuse_same _ _ _ _ _
    (facts.sizes_ok_lem n m (length s) (length p) (length u) (length v) z ∙ sym (facts.sizes_ok_lem n m (length s') (length p') (length u') (length v') z'))
    (λ e₁. refuse_same _ _ _ _ _ (cells_same n m s s' cs)
    (λ e₂. refuse_same _ _ _ _ _ (pairing_same n m s s' cs p p' ps)
    (λ e₃. refuse_same _ _ _ _ _ (and_same _ _ _ _ (numbers_same n (at u) (at u') us) (λ t. numbers_same m (at v) (at v') vs))
    (λ e₄. refuse_same _ _ _ _ _ (scores_same n m s s' cs u u' v v' us vs)
    (λ e₅. refuse_same _ _ _ _ _
    (cong₃ (sum_same n (at u) (at u') us) (total_same n m s s' cs p p' ps e₃) (sum_same m (at v) (at v') vs))
    (λ e₆. refl))))))
  where
    cong₃ : {a a' t t' b b' : ℕ} → a ≡ a' → t ≡ t' → b ≡ b' → eqb a (t + b) ≡ eqb a' (t' + b')
    cong₃ e f g = rw (e, f, g)

-- Lists that are cut to what n tracks and m reports need.
module _ (n m : ℕ) (s p u v : List ℕ) (z : Fits n m s p u v) where
  pub cut_pairing : length (take n p) ≡ n
  cut_pairing = length-take-le n p z.pairing_long

  pub cut_prices : length (take n u) ≡ n
  cut_prices = length-take-le n u z.prices_long

  pub cut_discounts : length (take m v) ≡ m
  cut_discounts = length-take-le m v z.discounts_long

  pub cut_fits : Fits n m s (take n p) (take n u) (take m v)
  cut_fits =
      record {
        tracks_few = z.tracks_few;
        reports_few = z.reports_few;
        cells_long = z.cells_long;
        pairing_long = le_of_eq (sym cut_pairing);
        prices_long = le_of_eq (sym cut_prices);
        discounts_long = le_of_eq (sym cut_discounts);
      }

  pub cut_answer : check_answer n m s (take n p) (take n u) (take m v) ≡ check_answer n m s p u v
  cut_answer =
      beyond_is_not_read n m s s (take n p) p (take n u) u (take m v) v cut_fits z (λ k l. refl)
      (λ i l. get_or-take n p i 0 l) (λ i l. get_or-take n u i 0 l) (λ j l. get_or-take m v j 0 l)
