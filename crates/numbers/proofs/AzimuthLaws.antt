-- What callers count on of azimuths: the signed difference leads from b to a, and is the only value of -32,768..32,767 that does.
use Rattle.std.proofs.Common.{◌≡◌, ℕ, suc, ◌+◌, ◌-◌, ◌%◌, ◌<◌, ℤ, pos, negsuc, ◌+ℤ◌, sym, ap, ◌∙◌, arith, le-ltb, lt-ltb}
use native.Mathlib.Decide.{dec_lt}
use lib.Signed.{mag}
use Rattle.numbers.specs.Scales.{turn, half_turn}
use Rattle.numbers.specs.Whole.{remainder}
use Rattle.numbers.specs.Azimuth.{signed16, azimuth_difference, azimuth_moved}
use Rattle.numbers.proofs.Forms.{moved_form}
use Rattle.numbers.proofs.WholeLaws.{remainder_lies}

-- z is one of -32,768..32,767: -1 - k and k, for k below 32,768
pub record Sixteen (z : ℤ) : Type 0 where
  pub fits : mag z < half_turn

-- sixteen bits are read as one of these, and written back as they were
pub signed16_lies : (n : ℕ) → n < turn → Sixteen (signed16 n)
unfolding signed16
signed16_lies n h = go (dec_lt n half_turn)
  where
    go : Dec (n < half_turn) → Sixteen (signed16 n)
    go (yes l) = record { fits = rw (lt-ltb n half_turn l) l }
    go (no l) = record { fits = rw (le-ltb n half_turn (omega arith), lt-ltb n turn h) (omega arith) }

pub bits_signed : (n : ℕ) → n < turn → remainder (signed16 n) turn ≡ n
unfolding signed16 remainder
bits_signed n h = go (dec_lt n half_turn)
  where
    go : Dec (n < half_turn) → remainder (signed16 n) turn ≡ n
    go (yes l) = rw (lt-ltb n half_turn l) (omega arith)
    go (no l) = rw (le-ltb n half_turn (omega arith), lt-ltb n turn h) (omega arith)

-- and each of these is read from the bits that it is written as
pub signed_bits : (z : ℤ) → Sixteen z → signed16 (remainder z turn) ≡ z
unfolding signed16 remainder
signed_bits (pos n) h =
    let e : n % turn ≡ n = omega (arith, h.fits) in
    rw (e, lt-ltb n half_turn h.fits)
signed_bits (negsuc n) h =
    let e : turn - suc (n % turn) ≡ turn - suc n = omega (arith, h.fits) in
    let k : turn - suc (turn - suc n) ≡ n = omega (arith, h.fits) in
    rw (e, le-ltb (turn - suc n) half_turn (omega (arith, h.fits)), lt-ltb (turn - suc n) turn (omega arith), k)

pub moved_lies : (a : ℕ) (z : ℤ) → azimuth_moved a z < turn
unfolding azimuth_moved
moved_lies a z = remainder_lies (pos a +ℤ z) turn (omega arith)

pub difference_lies : (a b : ℕ) → Sixteen (azimuth_difference a b)
unfolding azimuth_difference
difference_lies a b = signed16_lies ((a + turn - b) % turn) (omega arith)

-- b moved by the difference is a
pub difference_leads : (a b : ℕ) → a < turn → b < turn → azimuth_moved b (azimuth_difference a b) ≡ a
unfolding azimuth_difference
difference_leads a b ha hb =
    rw (← moved_form b (signed16 ((a + turn - b) % turn)), bits_signed ((a + turn - b) % turn) (omega arith)) (omega arith)

-- and nothing else that fits does that
pub difference_only : (a b : ℕ) (z : ℤ) → b < turn → Sixteen z → azimuth_moved b z ≡ a → z ≡ azimuth_difference a b
unfolding azimuth_difference
difference_only a b z hb h e =
    let l : remainder z turn < turn = remainder_lies z turn (omega arith) in
    let m : (b + remainder z turn) % turn ≡ a = moved_form b z ∙ e in
    let k : remainder z turn ≡ (a + turn - b) % turn = omega arith in
    sym (signed_bits z h) ∙ ap signed16 k
