-- What a call leaves in a slot is well formed for the next call.
use Prim.Native.Nat.{ℕ, ◌+◌, ◌-◌, ◌≤◌, ◌<◌, min}
use mathlib.Core.Path.{◌≡◌, refl}
use mathlib.Core.Bool.{Bool, true, false, cond}
use native.Mathlib.Omega.{arith}
use borrow.Author.Tests.{ltb-false, lt-ltb, le-ltb}
use lib.Dec.{ltb}
use lib.IntN.{ℤ, nat_abs}
use lib.ListN.{set}
use Rattle.numbers.specs.Scales.{turn, sectors, range_most, range_speed_most, azimuth_speed_most}
use Rattle.numbers.specs.Sectors.{sector_of, next_sector, calls_ahead}
use Rattle.numbers.proofs.WholeLaws.{within_lies, from_zero_lies}
use Rattle.numbers.proofs.AzimuthLaws.{moved_lies}
use Rattle.records.specs.declared.Track.{Track}
use Rattle.records.specs.declared.Report.{Report}
use Rattle.records.specs.Fields.{allowance, WellFormed, Sound}
use Rattle.records.specs.Bytes.{wait_at, bytes_of}
use Rattle.std.specs.Prelude.{Some, None}
use Rattle.settling.specs.Settle.{Settleable, updates_most, new_speed, range_ahead, azimuth_ahead, updated_range, updated_azimuth, updated_range_speed, updated_azimuth_speed, updated_of, coasted_of, without_pair, started_of, aged_of}
use Rattle.settling.proofs.Waits.{waits, wait_is, wait_latest}

-- a well-formed track is one that can be settled
pub settleable : {t : Track} {s : ℕ} → WellFormed t s → Settleable t
settleable w = record { range_in = w.range_in; range_speed_in = w.range_speed_in; azimuth_speed_in = w.azimuth_speed_in }

-- a track as it leaves the call that served it in sector s: well formed for the next, and due again j calls after this one
pub record ServedTrack (t : Track) (s : ℕ) : Type 0 where
  pub well : WellFormed t (next_sector s)
  pub again : t.wait + 1 ≡ calls_ahead s (sector_of t.azimuth)

-- ---- what a step gives lies in its range

speed_lies : (most : ℕ) (speed D : ℤ) (b f : ℕ) → nat_abs (new_speed most speed D b f) ≤ most
unfolding new_speed
speed_lies most speed D b f = within_lies most _

range_lies : (range : ℕ) (speed : ℤ) → range_ahead range speed ≤ range_most
unfolding range_ahead
range_lies range speed = from_zero_lies range_most _

azimuth_lies : (azimuth : ℕ) (speed : ℤ) → azimuth_ahead azimuth speed < turn
unfolding azimuth_ahead
azimuth_lies azimuth speed = moved_lies azimuth speed

-- ---- paired, coasted, started

-- whatever the track was, a checked report makes it well formed
pub updated_served : (t : Track) (p : Report) (s : ℕ) → s < sectors → Sound p → ServedTrack (updated_of t p s) s
unfolding updated_of updated_range updated_azimuth updated_range_speed updated_azimuth_speed
updated_served t p s h w = record {
  well = record {
    held_mark = refl;
    range_in = range_lies _ _;
    range_speed_in = speed_lies range_speed_most _ _ _ _;
    azimuth_speed_in = speed_lies azimuth_speed_most _ _ _ _;
    is_updated = omega arith;
    confidence_in = w.confidence_in;
    quality_in = w.quality_in;
    wait_in = wait_latest s _;
    misses_in = omega arith;
    turn_comes = waits s _ h (azimuth_lies _ _);
  };
  again = wait_is s _;
}

-- its updates rise by 1 up to 255
pub updated_updates : (t : Track) (p : Report) (s : ℕ) → (updated_of t p s).updates ≡ min (t.updates + 1) updates_most
unfolding updated_of
updated_updates t p s = refl

-- a due track without a pair is kept while one more miss is allowed
pub coasted_keeps : (t : Track) (s : ℕ) → t.misses + 1 ≤ allowance t.updates → without_pair t s ≡ Some (coasted_of t s)
unfolding without_pair
coasted_keeps t s h = rw (le-ltb (allowance t.updates) (t.misses + 1) h)

pub coasted_drops : (t : Track) (s : ℕ) → allowance t.updates < t.misses + 1 → without_pair t s ≡ None
unfolding without_pair
coasted_drops t s h = rw (lt-ltb (allowance t.updates) (t.misses + 1) h)

missed_served : (t : Track) (s : ℕ) → s < sectors → WellFormed t s → t.misses + 1 ≤ allowance t.updates → ServedTrack (coasted_of t s) s
unfolding coasted_of
missed_served t s h w l = record {
  well = record {
    held_mark = refl;
    range_in = range_lies _ _;
    range_speed_in = w.range_speed_in;
    azimuth_speed_in = w.azimuth_speed_in;
    is_updated = w.is_updated;
    confidence_in = w.confidence_in;
    quality_in = w.quality_in;
    wait_in = wait_latest s _;
    misses_in = l;
    turn_comes = waits s _ h (azimuth_lies _ _);
  };
  again = wait_is s _;
}

pub coasted_served : (t kept : Track) (s : ℕ) → s < sectors → WellFormed t s → without_pair t s ≡ Some kept → ServedTrack kept s
unfolding without_pair
coasted_served t kept s h w e = go (ltb (allowance t.updates) (t.misses + 1)) refl e
  where
    go : (b : Bool) → ltb (allowance t.updates) (t.misses + 1) ≡ b → cond b None (Some (coasted_of t s)) ≡ Some kept → ServedTrack kept s
    go true l q = let z : ◌≡◌ {A = ℕ} 0 1 = cc in omega arith
    go false l q =
        let k : coasted_of t s ≡ kept = cc in
        rw k at (missed_served t s h w (ltb-false (allowance t.updates) (t.misses + 1) l))

pub started_served : (p : Report) (s : ℕ) → s < sectors → p.azimuth < turn → Sound p → ServedTrack (started_of p s) s
unfolding started_of
started_served p s h a w = record {
  well = record {
    held_mark = refl;
    range_in = w.range_in;
    range_speed_in = omega arith;
    azimuth_speed_in = omega arith;
    is_updated = omega arith;
    confidence_in = w.confidence_in;
    quality_in = w.quality_in;
    wait_in = wait_latest s _;
    misses_in = omega arith;
    turn_comes = waits s _ h a;
  };
  again = wait_is s _;
}

-- ---- not due

-- a track that is not served in sector s stays well formed for the next call
pub aged_well_formed : (t : Track) (s : ℕ) → WellFormed t s → 0 < t.wait → WellFormed (aged_of t) (next_sector s)
unfolding aged_of next_sector
aged_well_formed t s w h = record {
  held_mark = w.held_mark;
  range_in = w.range_in;
  range_speed_in = w.range_speed_in;
  azimuth_speed_in = w.azimuth_speed_in;
  is_updated = w.is_updated;
  confidence_in = w.confidence_in;
  quality_in = w.quality_in;
  wait_in = omega (arith, w.wait_in);
  misses_in = w.misses_in;
  turn_comes = omega (arith, w.turn_comes);
}

-- and all its bytes but the wait's are as they were
pub aged_bytes : (t : Track) → bytes_of (aged_of t) ≡ set (bytes_of t) wait_at (t.wait - 1)
unfolding aged_of bytes_of
aged_bytes t = refl
