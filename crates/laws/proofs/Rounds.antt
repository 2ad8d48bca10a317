-- Loops over the numbers below m, a search from a known place, and counts that do not depend on where they begin.
use Prim.Native.Nat.{ℕ, zero, suc, ◌+◌, ◌≤◌, ◌<◌}
use mathlib.Core.Path.{◌≡◌, refl, ap}
use mathlib.Core.Bool.{Bool, true, false, cond}
use mathlib.Core.List.{List, [], ◌∷◌, ◌++◌}
use native.Mathlib.Nat.{zero-add, le_of_suc-le-suc, not-suc-le-zero}
use native.Mathlib.Omega.{arith}
use lib.ListN.{length, get_or, drop, set}
use Rattle.laws.specs.Lists.{first_index, indices_from, after_all, outs, listed, numbers}
use Rattle.laws.proofs.Listed.{length_listed, listed_at}
use Rattle.laws.proofs.Fold.{Stepped, stepped_more, stepped_end, Answered, answered_more, answered_end}
use Rattle.laws.proofs.Search.{Passed, first_upto}

-- ---- a state that each number below m changes in turn, and an answer list

module _ {S : Type 0} (step : ℕ → S → S) where
  pub round_more : {m k : ℕ} {s₀ s s' : S} → Stepped step (numbers m) s₀ s k → k < m → s' ≡ step k s → Stepped step (numbers m) s₀ s' (k + 1)
  round_more {m} {k} w h e =
      stepped_more step 0 w (rw (length_listed m (λ j. j)) h) (rw (listed_at m (λ j. j) k 0 h) e)

  pub round_upto : {m k : ℕ} {s₀ s : S} → Stepped step (numbers m) s₀ s k → k ≤ m
  round_upto {m} w = rw (length_listed m (λ j. j)) at w.upto

  pub round_end : {m k : ℕ} {s₀ s : S} → Stepped step (numbers m) s₀ s k → m ≤ k → s ≡ after_all step (numbers m) s₀
  round_end {m} {k} w h = stepped_end step w (rw (length_listed m (λ j. j)) h)

module _ {S C : Type 0} (step : ℕ → S → S) (out : ℕ → S → C) where
  pub told_more : {m k : ℕ} {s₀ s s' : S} {o o₀ : List C} {v : C} → Answered step out (numbers m) s₀ s o o₀ k → k < m → m ≤ length o₀ → s' ≡ step k s → v ≡ out k s → Answered step out (numbers m) s₀ s' (set o k v) o₀ (k + 1)
  told_more {m} {k} w h l e f =
      answered_more step out 0 w (rw (length_listed m (λ j. j)) h) (rw (length_listed m (λ j. j)) l) (rw (listed_at m (λ j. j) k 0 h) e) (rw (listed_at m (λ j. j) k 0 h) f)

  pub told_end : {m k : ℕ} {s₀ s : S} {o o₀ : List C} → Answered step out (numbers m) s₀ s o o₀ k → m ≤ k → k ≤ m → o ≡ outs step out (numbers m) s₀ ++ drop m o₀
  told_end {m} {k} {s₀} {s} {o} {o₀} w h l =
      rw (length_listed m (λ j. j)) at (answered_end step out w (rw (length_listed m (λ j. j)) h) (rw (length_listed m (λ j. j)) l))

-- what each step keeps, all of them keep
module _ {B S : Type 0} (step : B → S → S) (Q : S → Type 0) where
  pub all_keep : (n : ℕ) (f : ℕ → B) (s : S) → ((k : ℕ) (t : S) → k < n → Q t → Q (step (f k) t)) → Q s → Q (after_all step (listed n f) s)
  unfolding after_all
  all_keep zero f s h q = q
  all_keep (suc n) f s h q =
      all_keep n (λ k. f (suc k)) (step (f 0) s) (λ k t l. h (suc k) t (omega arith)) (h 0 s (omega arith) q)

-- the answer at a place, from the state that the places before it left
module _ {B S C : Type 0} (step : B → S → S) (out : B → S → C) where
  pub told_at : (n : ℕ) (f : ℕ → B) (s : S) (k : ℕ) (d : C) → k < n → get_or (outs step out (listed n f) s) k d ≡ out (f k) (after_all step (listed k f) s)
  unfolding outs after_all
  told_at zero f s k d h = absurd (not-suc-le-zero h)
  told_at (suc n) f s zero d h = refl
  told_at (suc n) f s (suc k) d h = told_at n (λ k. f (suc k)) (step (f 0) s) k d (le_of_suc-le-suc h)

-- ---- a search

module _ {A : Type 0} (p : A → Bool) where
  -- places before the first one of the kind may be passed
  before_first : (xs : List A) (i : ℕ) → i ≤ first_index p xs → i + first_index p (drop i xs) ≡ first_index p xs
  unfolding first_index
  before_first xs zero h = zero-add _
  before_first [] (suc i) h = absurd (not-suc-le-zero h)
  before_first (x ∷ xs) (suc i) h = go (p x) h (before_first xs i)
    where
      go : (b : Bool) → suc i ≤ cond b 0 (suc (first_index p xs)) → (i ≤ first_index p xs → i + first_index p (drop i xs) ≡ first_index p xs) → suc i + first_index p (drop i xs) ≡ cond b 0 (suc (first_index p xs))
      go true h rest = absurd (not-suc-le-zero h)
      go false h rest = omega (arith, rest (le_of_suc-le-suc h))

  pub passed_from : (xs : List A) (i : ℕ) → i ≤ first_index p xs → Passed p xs i
  passed_from xs i h = record { upto = omega (arith, first_upto p xs); ahead = before_first xs i h }

  -- a change at the first place of the kind leaves none before it
  pub first_later : (xs : List A) (v : A) → first_index p xs ≤ first_index p (set xs (first_index p xs) v)
  unfolding first_index
  first_later [] v = omega arith
  first_later (x ∷ xs) v = go (p x) refl (first_later xs v)
    where
      go : (b : Bool) → p x ≡ b → first_index p xs ≤ first_index p (set xs (first_index p xs) v) → cond b 0 (suc (first_index p xs)) ≤ first_index p (set (x ∷ xs) (cond b 0 (suc (first_index p xs))) v)
      go true e h = omega arith
      go false e h = rw e (omega arith)

  -- a count does not depend on the number that places are counted from
  pub count_from : (a b : ℕ) (xs : List A) → length (indices_from p a xs) ≡ length (indices_from p b xs)
  unfolding indices_from
  count_from a b [] = refl
  count_from a b (x ∷ xs) = go (p x) (count_from (suc a) (suc b) xs)
    where
      go : (c : Bool) → length (indices_from p (suc a) xs) ≡ length (indices_from p (suc b) xs) → length (cond c (a ∷ indices_from p (suc a) xs) (indices_from p (suc a) xs)) ≡ length (cond c (b ∷ indices_from p (suc b) xs) (indices_from p (suc b) xs))
      go true e = ap suc e
      go false e = e
