-- The size of a signed number, nat_abs, which omega reads as a number; and a difference of two naturals, by which is larger.
use Prim.Native.Nat.{ℕ, zero, suc, ◌+◌, ◌-◌, ◌*◌, ◌≤◌, ◌<◌, min, max}
use mathlib.Core.Path.{◌≡◌, refl, ap, sym}
use native.Mathlib.Nat.{le_refl, mul-zero}
use native.Mathlib.Decide.{dec_lt}
use native.Mathlib.Omega.{arith}
use borrow.Author.Tests.{le-ltb, lt-ltb}
use lib.IntN.{ℤ, pos, negsuc, neg_ℤ, nat_abs, ◌-ℤ◌, ◌*ℤ◌, neg_ℤ-+ℤ, pos-*ℤ-negsuc}
use lib.Signed.{mag}

pub mag_size : (z : ℤ) → mag z ≤ nat_abs z
mag_size (pos n) = le_refl n
mag_size (negsuc n) = omega arith

pub neg_size : (z : ℤ) → nat_abs (neg_ℤ z) ≡ nat_abs z
neg_size (pos zero) = refl
neg_size (pos (suc n)) = refl
neg_size (negsuc n) = refl

-- ---- a difference of two naturals

pub minus_less : (a b : ℕ) → a < b → pos a -ℤ pos b ≡ neg_ℤ (pos (b - a))
minus_less a zero h = absurd (omega arith)
minus_less a (suc b) h = rw (lt-ltb a (suc b) h, one_more a b h)
  where
    one_more : (a b : ℕ) → a < suc b → suc b - a ≡ suc (suc b - suc a)
    one_more a b h = omega arith

pub minus_more : (a b : ℕ) → b ≤ a → pos a -ℤ pos b ≡ pos (a - b)
minus_more a zero h = ap pos (same a)
  where
    same : (a : ℕ) → a + 0 ≡ a - 0
    same a = omega arith
minus_more a (suc b) h = rw (le-ltb a (suc b) h)

pub difference_size : (a b : ℕ) → nat_abs (pos a -ℤ pos b) ≡ max a b - min a b
difference_size a b = go (dec_lt a b)
  where
    go : Dec (a < b) → nat_abs (pos a -ℤ pos b) ≡ max a b - min a b
    go (yes h) = rw (minus_less a b h, neg_size (pos (b - a))) (omega arith)
    go (no h) = rw (minus_more a b (omega arith)) (omega arith)

-- the same of two numbers turned round
pub neg_difference_size : (a b : ℤ) → nat_abs (neg_ℤ a -ℤ neg_ℤ b) ≡ nat_abs (a -ℤ b)
neg_difference_size a b = rw (← neg_ℤ-+ℤ a (neg_ℤ b)) (neg_size (a -ℤ b))

-- -a - b, and d times -q
pub neg_minus : (a b : ℕ) → neg_ℤ (pos a) -ℤ pos b ≡ neg_ℤ (pos (a + b))
neg_minus a b = sym (neg_ℤ-+ℤ (pos a) (pos b))

pub times_neg : (d q : ℕ) → pos d *ℤ neg_ℤ (pos q) ≡ neg_ℤ (pos (d * q))
times_neg d zero = rw (mul-zero d)
times_neg d (suc q) = pos-*ℤ-negsuc d q
