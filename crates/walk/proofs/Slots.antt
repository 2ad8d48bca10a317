-- What the step of one slot counts on, and its bytes.
use Prim.Native.Nat.{ℕ, ◌-◌, ◌<◌}
use mathlib.Core.Path.{◌≡◌}
use mathlib.Core.Bool.{false}
use mathlib.Core.List.{List}
use native.Mathlib.Omega.{arith}
use borrow.Author.Tests.{eqb-false, eq-eqb}
use lib.IntN.{nat_abs}
use lib.ListN.{set}
use Rattle.numbers.specs.Scales.{half_turn}
use Rattle.records.specs.declared.Track.{Track}
use Rattle.records.specs.Fields.{held, WellFormed}
use Rattle.laws.specs.Lists.{at}
use Rattle.records.specs.Bytes.{freed, slot_bytes, wait_at, mark_at, track_of, bytes_of, slot_due}
use Rattle.records.proofs.RoundTrips.{Bytes, pack_unpack}
use Rattle.std.specs.Prelude.{Some, None}
use Rattle.settling.specs.Settle.{without_pair}
use Rattle.settling.proofs.HandedOn.{aged_bytes}
use Rattle.walk.specs.Table.{missed_bytes, missed_slot, aged_slot}

-- a held track that is not due still waits
pub waits_on : (slot : List ℕ) → slot_due slot ≡ false → at slot mark_at ≡ held → 0 < at slot wait_at
unfolding slot_due
waits_on slot d e =
    let z : at slot wait_at ≡ 0 → ⊥ = eqb-false (at slot wait_at) 0 (rw (eq-eqb (at slot mark_at) held e) at d) in
    omega arith

-- and so does its track, with its mark
pub track_waits_on : (slot : List ℕ) → slot_due slot ≡ false → at slot mark_at ≡ held → ((track_of slot).mark ≡ held) × (0 < (track_of slot).wait)
unfolding track_of
track_waits_on slot d e = (e, waits_on slot d e)

-- ageing changes one byte
pub aged_byte : (slot : List ℕ) → Bytes slot_bytes slot → at slot mark_at ≡ held → aged_slot slot ≡ set slot wait_at (at slot wait_at - 1)
unfolding aged_slot track_of
aged_byte slot b e = rw (eq-eqb (at slot mark_at) held e, aged_bytes (track_of slot), pack_unpack slot b)

-- a due track without a pair, by what becomes of it
pub missed_kept : (s : ℕ) (slot : List ℕ) (t : Track) → without_pair (track_of slot) s ≡ Some t → missed_slot s slot ≡ bytes_of t
unfolding missed_slot missed_bytes
missed_kept s slot t e = rw e

pub missed_dropped : (s : ℕ) (slot : List ℕ) → without_pair (track_of slot) s ≡ None → missed_slot s slot ≡ freed
unfolding missed_slot missed_bytes
missed_dropped s slot e = rw e

-- a well-formed track's speeds fit sixteen bits
pub speeds_fit : {t : Track} {s : ℕ} → WellFormed t s → (nat_abs t.range_speed < half_turn) × (nat_abs t.azimuth_speed < half_turn)
speeds_fit w = (omega (arith, w.range_speed_in), omega (arith, w.azimuth_speed_in))
