-- The smoothed range lies in 0..66,560, and for every gain of 01 it does so before it is held.
use Prim.Native.Nat.{ℕ, zero, suc, ◌+◌, ◌-◌, ◌*◌, ◌/◌, ◌≤◌, ◌<◌}
use mathlib.Core.Path.{◌≡◌, refl, ap}
use native.Mathlib.Nat.{mul-le-mul_left}
use native.Mathlib.Omega.{arith}
use native.Mathlib.Decide.{dec_lt}
use lib.IntN.{ℤ, pos, negsuc, neg_ℤ, ◌-ℤ◌}
use Rattle.laws.proofs.Sizes.{minus_less, minus_more}
use Rattle.numbers.specs.Scales.{range_most}
use Rattle.numbers.specs.Whole.{rounded}
use Rattle.numbers.proofs.WholeLaws.{from_zero_lies, from_zero_same}
use Rattle.settling.specs.Gains.{tenths}
use Rattle.settling.specs.Settle.{correction, smoothed_range}

-- n a / 10, to the nearest
abbrev drawn : ℕ → ℕ → ℕ
drawn n a = (2 * (n * a) + tenths) / (2 * tenths)

-- no gain draws further than the report lies
drawn_within : (n a : ℕ) → a ≤ tenths → drawn n a ≤ n
drawn_within n a h = omega (arith, mul-le-mul_left n h)

-- a prediction beyond the report is drawn back, one short of it forward
drawn_back : (n a : ℕ) → correction (pos n) a ≡ pos (drawn n a)
unfolding correction rounded
drawn_back n a = refl

drawn_forward : (n a : ℕ) → correction (negsuc n) a ≡ neg_ℤ (pos (drawn (suc n) a))
unfolding correction rounded
drawn_forward n a = go (suc n * a)
  where
    go : (k : ℕ) → rounded (neg_ℤ (pos k)) tenths ≡ neg_ℤ (pos ((2 * k + tenths) / (2 * tenths)))
    go zero = refl
    go (suc k) = refl

minus_neg : (a b : ℕ) → pos a -ℤ neg_ℤ (pos b) ≡ pos (a + b)
minus_neg a zero = refl
minus_neg a (suc b) = refl

-- what is smoothed, not held yet, is a range
record Lands (predicted reported a : ℕ) : Type 0 where
  smoothed : ℕ
  within : smoothed ≤ range_most
  is_smoothed : pos predicted -ℤ correction (pos predicted -ℤ pos reported) a ≡ pos smoothed

lands : (predicted reported a : ℕ) → predicted ≤ range_most → reported ≤ range_most → a ≤ tenths → Lands predicted reported a
lands predicted reported a hp hr ha = go (dec_lt predicted reported)
  where
    go : Dec (predicted < reported) → Lands predicted reported a
    go (yes h) =
        let n : ℕ = reported - suc predicted in
        let e : reported - predicted ≡ suc (reported - suc predicted) = omega arith in
        record {
          smoothed = predicted + drawn (suc n) a;
          within = omega (arith, drawn_within (suc n) a ha);
          is_smoothed = rw (minus_less predicted reported h, e, drawn_forward n a, minus_neg predicted (drawn (suc n) a));
        }
    go (no h) =
        let n : ℕ = predicted - reported in
        let l : drawn n a ≤ predicted = omega (arith, drawn_within n a ha) in
        record {
          smoothed = predicted - drawn n a;
          within = omega arith;
          is_smoothed = rw (minus_more predicted reported (omega arith), drawn_back n a, minus_more predicted (drawn n a) l);
        }

pub smoothed_lies : (predicted a : ℕ) (D : ℤ) → smoothed_range predicted D a ≤ range_most
unfolding smoothed_range
smoothed_lies predicted a D = from_zero_lies range_most _

-- holding changes nothing
pub smoothed_in_range : (predicted reported a : ℕ) → predicted ≤ range_most → reported ≤ range_most → a ≤ tenths → pos (smoothed_range predicted (pos predicted -ℤ pos reported) a) ≡ pos predicted -ℤ correction (pos predicted -ℤ pos reported) a
unfolding smoothed_range
smoothed_in_range predicted reported a hp hr ha =
    let l = lands predicted reported a hp hr ha in
    rw l.is_smoothed (ap pos (from_zero_same range_most l.smoothed l.within))
