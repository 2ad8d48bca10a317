use Rattle.walk.proofs.Slots.{track_waits_on, aged_byte}
use Rattle.laws.specs.Lists.{at}
use Rattle.records.proofs.RoundTrips.{Bytes}
use Rattle.records.specs.Bytes.{slot_bytes, track_of}
use Rattle.settling.specs.Settle.{aged_of}
use native.Mathlib.Omega.{arith}
use mathlib.Core.Path.{sym, ◌∙◌}
use mir.Val.{Fits}
use mir.Syntax.{w8}
use Rattle.walk.specs.Table.{aged_slot, rested_slot}
use borrow.Author.Tests.{ne_eqb}
use borrow.Author.Rules.{rules}
use Rattle.walk.proofs.rested_slot.Goals.{then-slot_due-via-then-slot_due, then-slot_due-via-else-slot_due+then-slot-ne-HELD}
use Rattle.walk.proofs.rested_slot.Goals as goal

pub returns-then-slot_due : goal.returns-then-slot_due
unfolding rested_slot aged_slot
returns-then-slot_due c = elim c.then-slot_due.branch [
  | then-slot_due-via-then-slot_due w ↦ rw (sym c.slot_due.ensures ∙ w.if-slot_due.true)
  | then-slot_due-via-else-slot_due+then-slot-ne-HELD w ↦ rw (sym c.slot_due.ensures ∙ w.if-slot_due.false, ne_eqb _ _ w.if-slot-ne-HELD.true)
]

pub aged-aged-requires : goal.aged-aged-requires
aged-aged-requires c = rw c.unpack.ensures (track_waits_on c.args.slot (sym c.slot_due.ensures ∙ c.if-slot_due.false) c.if-slot-ne-HELD.false)

pub returns : goal.returns
unfolding rested_slot aged_of track_of
returns c =
    let b : Bytes slot_bytes c.args.slot =
    record { count = search rules; small = λ k h. let f : Fits w8 (at c.args.slot k) = search rules in omega (arith, f.fits) } in
    rw (sym c.slot_due.ensures ∙ c.if-slot_due.false, c.aged-aged.ensures, c.unpack.ensures) (sym (aged_byte _ b c.if-slot-ne-HELD.false))
