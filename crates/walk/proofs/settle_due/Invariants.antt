use mathlib.Core.List.{[]}
use lib.ListN.{get_or}
use Rattle.laws.specs.Places.{Placed}
use Rattle.walk.specs.Table.{settled_slot}
use Rattle.walk.proofs.settle_due.Given as goal

abbrev pub invariant-loop-rank : goal.invariant-loop-rank
invariant-loop-rank l = Placed [] l.due (λ rank. settled_slot l.sector l.batch l.pairing (get_or l.initial.table (get_or l.due rank 0) []) rank) l.initial.table l.table l.rank
