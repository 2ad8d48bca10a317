-- Update, coast, drop, start and ageing of one track (01, 'After pairing').
use Rattle.std.specs.Prelude.{ℕ, ◌+◌, ◌-◌, ◌*◌, ◌≤◌, min, cond, ltb, ℤ, pos, neg_ℤ, nat_abs, ◌+ℤ◌, ◌-ℤ◌, ◌*ℤ◌, Option, Some, None}
use Rattle.numbers.specs.Scales.{range_most, range_speed_most, azimuth_speed_most}
use Rattle.numbers.specs.Whole.{rounded, held_within, held_from_zero}
use Rattle.numbers.specs.Azimuth.{azimuth_moved}
use Rattle.numbers.specs.Sectors.{sector_of, calls_ahead}
use Rattle.records.specs.declared.Track.{Track}
use Rattle.records.specs.declared.Report.{Report}
use Rattle.records.specs.Fields.{held, updates_at_start, allowance, range_d, azimuth_d}
use Rattle.settling.specs.Gains.{tenths, gain_a, gain_b}

-- ---- what a step asks of a track: a well-formed one has it

pub record Settleable (t : Track) : Type 0 where
  pub range_in : t.range ≤ range_most
  pub range_speed_in : nat_abs t.range_speed ≤ range_speed_most
  pub azimuth_speed_in : nat_abs t.azimuth_speed ≤ azimuth_speed_most

-- ---- one coordinate: D = predicted - reported, f = misses + 1, a and b in tenths

-- bD/(10f)
unfoldable pub speed_correction : (D : ℤ) (b f : ℕ) → ℤ
speed_correction D b f = rounded (D *ℤ pos b) (tenths * f)

-- new speed = speed - bD/(10f), held to the speed range
unfoldable pub new_speed : (most : ℕ) (speed D : ℤ) (b f : ℕ) → ℤ
new_speed most speed D b f = held_within most (speed -ℤ speed_correction D b f)

-- aD/10
unfoldable pub correction : (D : ℤ) (a : ℕ) → ℤ
correction D a = rounded (D *ℤ pos a) tenths

-- smoothed = predicted - aD/10; a range is held to 0..66,560, an azimuth goes round
unfoldable pub smoothed_range : (predicted : ℕ) (D : ℤ) (a : ℕ) → ℕ
smoothed_range predicted D a = held_from_zero range_most (pos predicted -ℤ correction D a)

unfoldable pub smoothed_azimuth : (predicted : ℕ) (D : ℤ) (a : ℕ) → ℕ
smoothed_azimuth predicted D a = azimuth_moved predicted (neg_ℤ (correction D a))

-- a range and an azimuth one scan ahead
unfoldable pub range_ahead : ℕ → ℤ → ℕ
range_ahead range speed = held_from_zero range_most (pos range +ℤ speed)

unfoldable pub azimuth_ahead : ℕ → ℤ → ℕ
azimuth_ahead azimuth speed = azimuth_moved azimuth speed

-- ---- the wait

-- a track served or started in sector s waits j calls, and the wait stored is j - 1
unfoldable pub wait_after : (s azimuth : ℕ) → ℕ
wait_after s azimuth = calls_ahead s (sector_of azimuth) - 1

-- ---- a pair: what the track becomes

abbrev pub updates_most : ℕ
updates_most = 255

unfoldable pub updated_range_speed : Track → Report → ℤ
updated_range_speed t p = new_speed range_speed_most t.range_speed (range_d t p) (gain_b t p) (t.misses + 1)

unfoldable pub updated_azimuth_speed : Track → Report → ℤ
updated_azimuth_speed t p = new_speed azimuth_speed_most t.azimuth_speed (azimuth_d t p) (gain_b t p) (t.misses + 1)

-- new prediction = smoothed + new speed
unfoldable pub updated_range : Track → Report → ℕ
updated_range t p = range_ahead (smoothed_range t.range (range_d t p) (gain_a t p)) (updated_range_speed t p)

unfoldable pub updated_azimuth : Track → Report → ℕ
updated_azimuth t p = azimuth_ahead (smoothed_azimuth t.azimuth (azimuth_d t p) (gain_a t p)) (updated_azimuth_speed t p)

-- updates rises by 1 up to 255, misses becomes 0, confidence and quality are the report's; s is the sector served
unfoldable pub updated_of : Track → Report → ℕ → Track
updated_of t p s = record {
  range = updated_range t p;
  azimuth = updated_azimuth t p;
  range_speed = updated_range_speed t p;
  azimuth_speed = updated_azimuth_speed t p;
  updates = min (t.updates + 1) updates_most;
  misses = 0;
  confidence = p.confidence;
  quality = p.quality;
  wait = wait_after s (updated_azimuth t p);
  mark = held;
}

-- ---- a due track without a pair

-- misses rises by 1 and the speeds are added to the prediction
unfoldable pub coasted_of : Track → ℕ → Track
coasted_of t s = record {
  range = range_ahead t.range t.range_speed;
  azimuth = azimuth_ahead t.azimuth t.azimuth_speed;
  range_speed = t.range_speed;
  azimuth_speed = t.azimuth_speed;
  updates = t.updates;
  misses = t.misses + 1;
  confidence = t.confidence;
  quality = t.quality;
  wait = wait_after s (azimuth_ahead t.azimuth t.azimuth_speed);
  mark = held;
}

-- if misses + 1 exceeds the allowance it is dropped: none
unfoldable pub without_pair : Track → ℕ → Option Track
without_pair t s = cond (ltb (allowance t.updates) (t.misses + 1)) None (Some (coasted_of t s))

-- ---- a report that starts a track

-- its position, confidence and quality, speeds 0, updates 1, misses 0
unfoldable pub started_of : Report → ℕ → Track
started_of p s = record {
  range = p.range;
  azimuth = p.azimuth;
  range_speed = pos 0;
  azimuth_speed = pos 0;
  updates = updates_at_start;
  misses = 0;
  confidence = p.confidence;
  quality = p.quality;
  wait = wait_after s p.azimuth;
  mark = held;
}

-- ---- a held track that is not served

-- it is aged, which is said of the wait and not of 01's age: it loses 1
unfoldable pub aged_of : Track → Track
aged_of t = record {
  range = t.range;
  azimuth = t.azimuth;
  range_speed = t.range_speed;
  azimuth_speed = t.azimuth_speed;
  updates = t.updates;
  misses = t.misses;
  confidence = t.confidence;
  quality = t.quality;
  wait = t.wait - 1;
  mark = t.mark;
}
