-- One store in a list of numbers, read at each index; and two numbers, by which is larger.
use Prim.Native.Nat.{ℕ, ◌-◌, ◌≤◌, ◌<◌}
use mathlib.Core.Logic.{◌⊎◌, inl, inr, ⊎_elim}
use native.Mathlib.Nat.{eq-zero-or-pos}
use mathlib.Core.Path.{◌≡◌}
use native.Mathlib.Omega.{arith}

pub le_or_lt : (a b : ℕ) → (a ≤ b) ⊎ (b < a)
le_or_lt a b = ⊎_elim (λ e. inl (omega arith)) (λ l. inr (omega arith)) (eq-zero-or-pos (a - b))

pub same_or : (k j : ℕ) → (k ≡ j) ⊎ (k ≡ j → ⊥)
same_or k j = ⊎_elim (λ a. ⊎_elim (λ b. inl (omega arith)) (λ b. inr (λ e. omega arith)) (le_or_lt j k)) (λ a. inr (λ e. omega arith)) (le_or_lt k j)
