-- A loop that writes at named places, and lists of places.
use Prim.Native.Nat.{ℕ, zero, suc, ◌≤◌, ◌<◌}
use mathlib.Core.Bool.{Bool, true, false, cond}
use mathlib.Core.List.{List, [], ◌∷◌}
use native.Mathlib.Nat.{le_of_suc-le-suc, not-suc-le-zero}
use native.Mathlib.Omega.{arith}
use lib.ListN.{length, get_or}
use Rattle.laws.specs.Lists.{indices_from}
use Rattle.laws.specs.Places.{Distinct}
use Rattle.laws.proofs.Ranks.{named}

-- the places of a kind, counted from a base, are named in order
module _ {A : Type 0} (p : A → Bool) where
  pub rising : (base : ℕ) (xs : List A) (d : A) (r q : ℕ) → r < q → q < length (indices_from p base xs) → get_or (indices_from p base xs) r 0 < get_or (indices_from p base xs) q 0
  unfolding indices_from
  rising base [] d r q h l = absurd (not-suc-le-zero l)
  rising base (x ∷ xs) d r q h l = go (p x) r q h l (rising (suc base) xs d) (λ i b. (named p (suc base) xs d i b).from)
    where
      go : (b : Bool) (r q : ℕ) → r < q → q < length (cond b (base ∷ indices_from p (suc base) xs) (indices_from p (suc base) xs))
          → ((r q : ℕ) → r < q → q < length (indices_from p (suc base) xs) → get_or (indices_from p (suc base) xs) r 0 < get_or (indices_from p (suc base) xs) q 0)
          → ((i : ℕ) → i < length (indices_from p (suc base) xs) → suc base ≤ get_or (indices_from p (suc base) xs) i 0)
          → get_or (cond b (base ∷ indices_from p (suc base) xs) (indices_from p (suc base) xs)) r 0 < get_or (cond b (base ∷ indices_from p (suc base) xs) (indices_from p (suc base) xs)) q 0
      go true zero (suc q) h l rest from = from q (le_of_suc-le-suc l)
      go true (suc r) (suc q) h l rest from = rest r q (le_of_suc-le-suc h) (le_of_suc-le-suc l)
      go true r zero h l rest from = absurd (not-suc-le-zero h)
      go false r q h l rest from = rest r q h l

  pub indices_distinct : (xs : List A) (d : A) → Distinct (indices_from p 0 xs) (length xs)
  indices_distinct xs d = record {
    once = λ r q h l e. omega (arith, rising 0 xs d r q h l);
    within = λ r h. omega (arith, (named p 0 xs d r h).within);
  }
