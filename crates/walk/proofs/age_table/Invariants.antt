use Rattle.laws.proofs.InPlace.{Mapped}
use Rattle.walk.specs.Table.{rested_slot}
use Rattle.walk.proofs.age_table.Given as goal

abbrev pub invariant-loop-slot : goal.invariant-loop-slot
invariant-loop-slot l = Mapped rested_slot l.table l.initial.table l.slot-index
