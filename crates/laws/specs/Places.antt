-- A list that is written at places that another list names.
use Rattle.std.specs.Prelude.{ℕ, ◌≤◌, ◌<◌, ◌≡◌, List, length, get_or}

-- no place is named twice, and each lies in a list so long
pub record Distinct (places : List ℕ) (long : ℕ) : Type 0 where
  pub once : (r q : ℕ) → r < q → q < length places → get_or places r 0 ≡ get_or places q 0 → ⊥
  pub within : (r : ℕ) → r < length places → get_or places r 0 < long

-- the first n places hold v 0, v 1, .. and all else is as it was
pub record Placed {A : Type 0} (d : A) (places : List ℕ) (v : ℕ → A) (was now : List A) (n : ℕ) : Type 0 where
  pub same : length now ≡ length was
  pub upto : n ≤ length places
  pub there : (r : ℕ) → r < n → get_or now (get_or places r 0) d ≡ v r
  pub else : (k : ℕ) → ((r : ℕ) → r < n → get_or places r 0 ≡ k → ⊥) → get_or now k d ≡ get_or was k d
