-- Laws of `largest`, the largest number of 1..n that a test holds of; and a search that halves an interval.
use Prim.Native.Nat.{ℕ, zero, suc, ◌+◌, ◌*◌, ◌/◌, ◌^◌, ◌≤◌, ◌<◌}
use mathlib.Core.Path.{◌≡◌, refl, ◌∙◌}
use mathlib.Core.Bool.{Bool, true, false, cond}
use mathlib.Core.Logic.{⊎_elim, ◌↔◌}
use native.Mathlib.Nat.{le_refl, le_step, eq-or-lt_of_le, le_of_suc-le-suc, not-suc-le-zero, pow-zero, pow-succ'}
use native.Mathlib.Decide.{dec_lt}
use native.Mathlib.Omega.{arith}
use Rattle.laws.proofs.Tests.{clash}
use Rattle.scoring.specs.Position.{largest}

-- on 1..n the test holds of every number below one that it holds of
pub record Downward (p : ℕ → Bool) (n : ℕ) : Type 0 where
  pub below : (a b : ℕ) → 0 < a → a ≤ b → b ≤ n → p b ≡ true → p a ≡ true

module _ (p : ℕ → Bool) where
  -- it is at most n
  pub largest_most : (n : ℕ) → largest p n ≤ n
  unfolding largest
  largest_most zero = le_refl 0
  largest_most (suc n) = go (p (suc n)) (largest_most n)
    where
      go : (b : Bool) → largest p n ≤ n → cond b (suc n) (largest p n) ≤ suc n
      go true h = le_refl (suc n)
      go false h = le_step h

  -- the test holds of it, unless it is 0
  pub largest_holds : (n : ℕ) → 0 < largest p n → p (largest p n) ≡ true
  unfolding largest
  largest_holds zero h = absurd (not-suc-le-zero h)
  largest_holds (suc n) h = go (p (suc n)) refl h (largest_holds n)
    where
      go : (b : Bool) → p (suc n) ≡ b → 0 < cond b (suc n) (largest p n) → (0 < largest p n → p (largest p n) ≡ true) → p (cond b (suc n) (largest p n)) ≡ true
      go true e h rest = e
      go false e h rest = rest h

  -- a number that the test holds of is no larger
  pub largest_reached : (n s : ℕ) → s ≤ n → p s ≡ true → s ≤ largest p n
  unfolding largest
  largest_reached zero s l e = l
  largest_reached (suc n) s l e = go (p (suc n)) refl (largest_reached n s)
    where
      go : (b : Bool) → p (suc n) ≡ b → (s ≤ n → p s ≡ true → s ≤ largest p n) → s ≤ cond b (suc n) (largest p n)
      go true f rest = l
      go false f rest = ⊎_elim (λ q. absurd (clash (rw q at e) f)) (λ k. rest (le_of_suc-le-suc k) e) (eq-or-lt_of_le l)

  -- a number that the test fails of is larger
  pub largest_missed : (n s : ℕ) → Downward p n → 0 < s → p s ≡ false → largest p n < s
  largest_missed n s d h e = go (dec_lt (largest p n) s)
    where
      go : Dec (largest p n < s) → largest p n < s
      go (yes k) = k
      go (no k) = absurd (clash (d.below s (largest p n) h (omega arith) (largest_most n) (largest_holds n (omega arith))) e)

  -- it is 0 where the test fails of 1
  pub largest_zero : (n : ℕ) → Downward p n → 0 < n → (largest p n ≡ 0) ↔ (p 1 ≡ false)
  largest_zero n d h = (fails (p 1) refl, λ e. omega (arith, largest_missed n 1 d (omega arith) e))
    where
      fails : (b : Bool) → p 1 ≡ b → largest p n ≡ 0 → p 1 ≡ false
      fails true e z = absurd (omega (arith, largest_reached n 1 h e))
      fails false e z = e

-- a test that holds of more has no smaller largest
pub largest_monotone : (p q : ℕ → Bool) (n : ℕ) → ((s : ℕ) → p s ≡ true → q s ≡ true) → largest p n ≤ largest q n
largest_monotone p q n h = go (dec_lt 0 (largest p n))
  where
    go : Dec (0 < largest p n) → largest p n ≤ largest q n
    go (yes k) = largest_reached q n (largest p n) (largest_most p n) (h (largest p n) (largest_holds p n k))
    go (no k) = omega arith

-- ---- a search that halves: the largest is one of the `width` numbers from `low` on, and the width is a power of 2

pub record Among (p : ℕ → Bool) (n low width : ℕ) : Type 0 where
  pub above : low ≤ largest p n
  pub below : largest p n < low + width
  pub within : low + width ≤ suc n
  pub power : (k : ℕ) × (width ≡ 2 ^ k)

halved : (width k : ℕ) → width ≡ 2 ^ k → 1 < width → (width ≡ width / 2 + width / 2) × ((j : ℕ) × (width / 2 ≡ 2 ^ j))
halved width zero e h = absurd (omega (arith, pow-zero 2))
halved width (suc j) e h =
    let d : width ≡ 2 * 2 ^ j = e ∙ pow-succ' 2 j in
    (omega arith, (j, omega arith))

module _ (p : ℕ → Bool) (n : ℕ) where
  pub among_all : (k : ℕ) → suc n ≡ 2 ^ k → Among p n 0 (suc n)
  among_all k e = record { above = omega arith; below = omega (arith, largest_most p n); within = omega arith; power = (k, e) }

  pub among_half : {low width : ℕ} (b : Bool) → Downward p n → Among p n low width → 1 < width → p (low + width / 2) ≡ b → Among p n (cond b (low + width / 2) low) (width / 2)
  among_half {low} {width} b d w h e = go b e
    where
      half : (width ≡ width / 2 + width / 2) × ((j : ℕ) × (width / 2 ≡ 2 ^ j))
      half = halved width w.power.0 w.power.1 h

      go : (b : Bool) → p (low + width / 2) ≡ b → Among p n (cond b (low + width / 2) low) (width / 2)
      go true e = record { above = largest_reached p n (low + width / 2) (omega (arith, half.0)) e; below = omega (arith, half.0); within = omega (arith, half.0); power = half.1 }
      go false e = record { above = w.above; below = largest_missed p n (low + width / 2) d (omega arith) e; within = omega arith; power = half.1 }

  pub among_end : {low width : ℕ} → Among p n low width → width ≤ 1 → low ≡ largest p n
  among_end w h = omega arith
