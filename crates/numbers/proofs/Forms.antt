-- The rules in the words of the library's contracts.
use Rattle.std.proofs.Common.{◌≡◌, ℕ, zero, suc, ◌+◌, ◌-◌, ◌*◌, ◌/◌, ◌%◌, ◌<◌, true, false, ℤ, pos, negsuc, ◌-ℤ◌, neg_ℤ, nat_abs, refl, arith, ltb-true, lt-ltb}
use native.Mathlib.Decide.{dec_lt}
use lib.Signed.{lt_z}
use Rattle.std.proofs.lemmas.Int.{ints, clamps}
use mir.Syntax.{w16}
use mir.Val.{to_z}
use Rattle.std.specs.Int.{int_max, int_min, int_rem_euclid}
use lib.IntN.{+ℤ_idl}
use Rattle.laws.proofs.Sizes.{minus_less, minus_more}
use Rattle.numbers.specs.Scales.{turn}
use Rattle.numbers.specs.Whole.{rounded, held_within, held_from_zero, remainder}
use Rattle.numbers.specs.Azimuth.{signed16, azimuth_moved}

-- what the machine's -z is
from_zero : (z : ℤ) → pos 0 -ℤ z ≡ neg_ℤ z
from_zero z = +ℤ_idl (neg_ℤ z)

-- a negative number by its size, and one that is not
pub rounded_below : (z : ℤ) (d : ℕ) → lt_z z (pos 0) ≡ true → pos 0 -ℤ pos ((2 * nat_abs z + d) / (2 * d)) ≡ rounded z d
unfolding rounded
rounded_below (pos n) d e = absurd (omega (arith, ltb-true n 0 e))
rounded_below (negsuc n) d e = from_zero (pos ((2 * suc n + d) / (2 * d)))

pub rounded_up : (z : ℤ) (d : ℕ) → lt_z z (pos 0) ≡ false → pos ((2 * nat_abs z + d) / (2 * d)) ≡ rounded z d
unfolding rounded
rounded_up (pos n) d e = refl
rounded_up (negsuc n) d e = cc

-- held by `clamp`, and the remainder of `rem_euclid`
pub within_clamp : (n : ℕ) (z : ℤ) → int_max (pos 0 -ℤ pos n) (int_min z (pos n)) ≡ held_within n z
unfolding held_within
within_clamp n (pos k) = omega (arith, ints, clamps)
within_clamp n (negsuc k) = omega (arith, ints, clamps)

pub from_zero_clamp : (n : ℕ) (z : ℤ) → nat_abs (int_max (pos 0) (int_min z (pos n))) ≡ held_from_zero n z
unfolding held_from_zero
from_zero_clamp n (pos k) = omega (arith, ints, clamps)
from_zero_clamp n (negsuc k) = refl

pub remainder_euclid : (z : ℤ) (m : ℕ) → nat_abs (int_rem_euclid z (pos m)) ≡ remainder z m
unfolding remainder
remainder_euclid (pos a) m = refl
remainder_euclid (negsuc a) m = omega arith

-- sixteen bits, as the machine reads them
pub signed16_is : (n : ℕ) → n < turn → to_z w16 n ≡ signed16 n
unfolding signed16
signed16_is n h = rw (lt-ltb n turn h)

remainder_neg : (k m : ℕ) → 0 < k → remainder (neg_ℤ (pos k)) m ≡ m - suc ((k - 1) % m)
unfolding remainder
remainder_neg zero m h = absurd (omega arith)
remainder_neg (suc k) m h = rw (less k)
  where
    less : (k : ℕ) → suc k - 1 ≡ k
    less k = omega arith

remainder_pos : (k m : ℕ) → remainder (pos k) m ≡ k % m
unfolding remainder
remainder_pos k m = refl

-- a less k goes round to what a and the rest of a turn go round to
round_back : (a k n : ℕ) → (a + n) % turn ≡ (a + (turn - suc (k % turn))) % turn → (a + n) % turn ≡ remainder (pos a -ℤ pos (suc k)) turn
round_back a k n e = go (dec_lt a (suc k))
  where
    go : Dec (a < suc k) → (a + n) % turn ≡ remainder (pos a -ℤ pos (suc k)) turn
    go (yes h) = rw (minus_less a (suc k) h, remainder_neg (suc k - a) turn (omega arith)) (omega arith)
    go (no h) = rw (minus_more a (suc k) (omega arith), remainder_pos) (omega arith)

-- an azimuth moved: the bits of the move are added, and the sum goes round
pub moved_form : (a : ℕ) (z : ℤ) → (a + remainder z turn) % turn ≡ azimuth_moved a z
unfolding azimuth_moved remainder
moved_form a (pos n) = omega arith
moved_form a (negsuc n) = round_back a n (turn - suc (n % turn)) refl
