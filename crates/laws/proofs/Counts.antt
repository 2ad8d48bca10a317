-- Counts of the elements of a kind, as sums over their places and over their ranks.
use Prim.Native.Nat.{ℕ, zero, suc, ◌+◌, ◌≤◌, ◌<◌}
use mathlib.Core.Path.{◌≡◌, refl, sym, ap, ◌∙◌}
use mathlib.Core.Bool.{Bool, true, false, cond}
use mathlib.Core.List.{List, [], ◌∷◌, ◌++◌}
use native.Mathlib.Nat.{add-zero, le_refl, le_of_suc-le-suc, not-suc-le-zero}
use native.Mathlib.Numerals.{add-one}
use native.Mathlib.Omega.{arith}
use lib.ListN.{length, get_or, take, set}
use lib.Seq.{take-suc, take-length}
use Rattle.laws.specs.Lists.{indices_from, count, after_all, outs}
use Rattle.laws.specs.Sums.{sum}
use Rattle.laws.proofs.Search.{Counted, counted_none, counted_more, counted_end}
use Rattle.laws.proofs.Rounds.{count_from}

module _ {A : Type 0} (p : A → Bool) where
  pub count_cons : (x : A) (xs : List A) → count p (x ∷ xs) ≡ cond (p x) 1 0 + count p xs
  unfolding indices_from
  count_cons x xs = go (p x)
    where
      go : (b : Bool) → length (cond b (0 ∷ indices_from p 1 xs) (indices_from p 1 xs)) ≡ cond b 1 0 + length (indices_from p 0 xs)
      go true = omega (arith, count_from p 1 0 xs)
      go false = omega (arith, count_from p 1 0 xs)

  pub count_none : count p [] ≡ 0
  unfolding indices_from
  count_none = refl

  count_last : (xs : List A) (x : A) → count p (xs ++ (x ∷ [])) ≡ count p xs + cond (p x) 1 0
  count_last [] x = omega (arith, count_cons x [], count_none)
  count_last (y ∷ xs) x = omega (arith, count_cons y (xs ++ (x ∷ [])), count_cons y xs, count_last xs x)

  -- over the places
  counted_upto : (xs : List A) (d : A) (i : ℕ) → i ≤ length xs → Counted p xs (sum i (λ k. cond (p (get_or xs k d)) 1 0)) i
  unfolding sum
  counted_upto xs d zero h = counted_none p xs
  counted_upto xs d (suc i) h = rw add-one at (counted_more p d (counted_upto xs d i (omega arith)) h refl)

  pub count_places : (xs : List A) (d : A) → count p xs ≡ sum (length xs) (λ k. cond (p (get_or xs k d)) 1 0)
  count_places xs d = sym (counted_end p (counted_upto xs d (length xs) (le_refl _)) (le_refl _))

  -- over the ranks: what each of the kind gives by its rank comes to what the ranks give
  ranked_upto : (xs : List A) (d : A) (g : ℕ → ℕ) (m : ℕ) → m ≤ length xs → sum m (λ k. cond (p (get_or xs k d)) (g (count p (take k xs))) 0) ≡ sum (count p (take m xs)) g
  unfolding sum
  ranked_upto xs d g zero h = rw count_none
  ranked_upto xs d g (suc m) h =
      rw (ranked_upto xs d g m (omega arith), take-suc xs m d h, count_last (take m xs) (get_or xs m d)) (go (p (get_or xs m d)))
    where
      go : (b : Bool) → sum (count p (take m xs)) g + cond b (g (count p (take m xs))) 0 ≡ sum (count p (take m xs) + cond b 1 0) g
      go true = rw add-one
      go false = simp add-zero

  pub sum_by_rank : (xs : List A) (d : A) (g : ℕ → ℕ) → sum (length xs) (λ k. cond (p (get_or xs k d)) (g (count p (take k xs))) 0) ≡ sum (count p xs) g
  sum_by_rank xs d g = ranked_upto xs d g (length xs) (le_refl _) ∙ ap (λ (ys : List A). sum (count p ys) g) (take-length xs)

  -- an element that becomes one of the kind counts one more
  pub count_set : (xs : List A) (k : ℕ) (v d : A) → k < length xs → p (get_or xs k d) ≡ false → p v ≡ true → count p (set xs k v) ≡ count p xs + 1
  count_set [] k v d h f t = absurd (not-suc-le-zero h)
  count_set (x ∷ xs) zero v d h f t = rw (count_cons v xs, count_cons x xs, f, t) (omega arith)
  count_set (x ∷ xs) (suc k) v d h f t = omega (arith, count_cons x (set xs k v), count_cons x xs, count_set xs k v d (le_of_suc-le-suc h) f t)

-- a measure that each step raises by one where its answer is of the kind is raised by the number of such answers
module _ {B S C : Type 0} (step : B → S → S) (out : B → S → C) (p : C → Bool) (measure : S → ℕ) where
  pub raised_by_answers : ((b : B) (s : S) → measure (step b s) ≡ measure s + cond (p (out b s)) 1 0) → (bs : List B) (s : S) → measure (after_all step bs s) ≡ measure s + count p (outs step out bs s)
  unfolding after_all outs
  raised_by_answers w [] s = omega (arith, count_none p)
  raised_by_answers w (b ∷ bs) s = omega (arith, raised_by_answers w bs (step b s), w b s, count_cons p (out b s) (outs step out bs (step b s)))
