-- The due list: each entry is a slot of the table that holds a well-formed due track.
use Prim.Native.Nat.{ℕ, ◌-◌, ◌<◌}
use mathlib.Core.Path.{◌≡◌}
use mathlib.Core.Bool.{true}
use mathlib.Core.List.{List, []}
use native.Mathlib.Omega.{arith}
use lib.ListN.{length, get_or}
use Rattle.laws.proofs.Ranks.{named}
use Rattle.laws.proofs.Tests.{clash}
use Rattle.records.specs.Fields.{track_fields, WellFormed}
use Rattle.records.specs.Bytes.{track_of, bad_slot_field, slot_due}
use Rattle.records.proofs.Checked.{free_slot_not_due, slot_well_formed}
use Rattle.intake.specs.Refusals.{Input, due_slots, Ready}
use Rattle.scoresheet.specs.Cells.{due_slot, due_track}

pub due_lies : (i : Input) (rank : ℕ) → rank < length (due_slots i.table) → due_slot i rank < length i.table
unfolding due_slots
due_lies i rank h = omega (arith, (named slot_due 0 i.table [] rank h).within)

pub due_is_due : (i : Input) (rank : ℕ) → rank < length (due_slots i.table) → slot_due (get_or i.table (due_slot i rank) []) ≡ true
unfolding due_slots
due_is_due i rank h =
    let e : due_slot i rank - 0 ≡ due_slot i rank = omega arith in
    rw e at (named slot_due 0 i.table [] rank h).kind

-- a due slot that is not malformed holds a well-formed track
pub due_track_lem : (slot : List ℕ) (s : ℕ) → bad_slot_field slot s ≡ track_fields → slot_due slot ≡ true → WellFormed (track_of slot) s
due_track_lem slot s e d = slot_well_formed slot s e (λ f. clash d (free_slot_not_due slot f))

pub due_well_formed : (i : Input) (rank : ℕ) → Ready i → rank < length (due_slots i.table) → WellFormed (due_track i rank) i.sector
due_well_formed i rank r h = due_track_lem _ _ (r.slots_good _ (due_lies i rank h)) (due_is_due i rank h)
