-- What a loop over a list computes: the first place of a kind, all its places, a state that each element changes, an answer a step.
use Rattle.std.specs.Prelude.{ℕ, zero, suc, List, [], ◌∷◌, Bool, cond, Option, Some, None, ltb, length, get_or}

module _ {A : Type 0} (p : A → Bool) where
  -- the index of the first element that p holds of, or the length
  unfoldable pub first_index : List A → ℕ
  first_index [] = 0
  first_index (x ∷ xs) = cond (p x) 0 (suc (first_index xs))

  -- the indices, counted from i, of the elements that p holds of
  unfoldable pub indices_from : ℕ → List A → List ℕ
  indices_from i [] = []
  indices_from i (x ∷ xs) = cond (p x) (i ∷ indices_from (suc i) xs) (indices_from (suc i) xs)

  -- and how many they are
  abbrev pub count : List A → ℕ
  count xs = length (indices_from 0 xs)

-- such an index as an answer: none where it is the length
unfoldable pub found_below : (i length : ℕ) → Option ℕ
found_below i length = cond (ltb i length) (Some i) None

-- a state that each element of a list changes in turn
module _ {B S : Type 0} (step : B → S → S) where
  unfoldable pub after_all : List B → S → S
  after_all [] s = s
  after_all (b ∷ bs) s = after_all bs (step b s)

-- and an answer for each element, from the state that it meets
module _ {B S C : Type 0} (step : B → S → S) (out : B → S → C) where
  unfoldable pub outs : List B → S → List C
  outs [] s = []
  outs (b ∷ bs) s = out b s ∷ outs bs (step b s)

-- f 0, f 1, .., f (n - 1)
module _ {A : Type 0} where
  abbrev pub listed : ℕ → (ℕ → A) → List A
  listed zero f = []
  listed (suc n) f = f 0 ∷ listed n (λ k. f (suc k))

-- 0, 1, .., n - 1
abbrev pub numbers : ℕ → List ℕ
numbers n = listed n (λ k. k)

-- entry k of a list of numbers, 0 past its end
abbrev pub at : List ℕ → ℕ → ℕ
at xs k = get_or xs k 0
