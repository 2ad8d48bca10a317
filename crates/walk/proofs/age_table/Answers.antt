use mathlib.Core.List.{[]}
use Rattle.laws.proofs.InPlace.{mapped_none, mapped_more, mapped_end}
use Rattle.walk.proofs.age_table.Goals as goal

pub loop-slot-init : goal.loop-slot-init
loop-slot-init c = mapped_none _ _

pub loop-slot-preserved : goal.loop-slot-preserved
loop-slot-preserved c = mapped_more _ [] c.loop-slot.invariant (rw c.loop-slot.invariant.same c.loop-slot-test.true) c.rested_slot.ensures

pub returns : goal.returns
returns c = mapped_end _ c.loop-slot.invariant (rw c.loop-slot.invariant.same c.loop-slot-test.false)
