-- A list of known length, entry by entry.
use Prim.Native.Nat.{ℕ, zero, suc, ◌<◌}
use mathlib.Core.Path.{◌≡◌, refl, ap}
use mathlib.Core.List.{List, [], ◌∷◌}
use native.Mathlib.Nat.{suc_inj, le_of_suc-le-suc, not-suc-le-zero}
use native.Mathlib.Omega.{arith}
use lib.ListN.{length, get_or}
use Rattle.laws.specs.Lists.{listed}

module _ {A : Type 0} where
  pub entries : (d : A) (n : ℕ) (xs : List A) → length xs ≡ n → xs ≡ listed n (λ k. get_or xs k d)
  entries d zero [] h = refl
  entries d zero (x ∷ xs) h = absurd (omega arith)
  entries d (suc n) [] h = absurd (omega arith)
  entries d (suc n) (x ∷ xs) h = ap (λ (l : List A). x ∷ l) (entries d n xs (suc_inj h))

  pub length_listed : (n : ℕ) (f : ℕ → A) → length (listed n f) ≡ n
  length_listed zero f = refl
  length_listed (suc n) f = ap suc (length_listed n (λ k. f (suc k)))

  pub listed_at : (n : ℕ) (f : ℕ → A) (k : ℕ) (d : A) → k < n → get_or (listed n f) k d ≡ f k
  listed_at zero f k d h = absurd (not-suc-le-zero h)
  listed_at (suc n) f zero d h = refl
  listed_at (suc n) f (suc k) d h = listed_at n (λ k. f (suc k)) k d (le_of_suc-le-suc h)
