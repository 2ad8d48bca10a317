use Rattle.walk.proofs.Walks.{MissedSoFar}
use Rattle.walk.proofs.count_missed.Given as goal

abbrev pub invariant-loop-rank : goal.invariant-loop-rank
invariant-loop-rank l = MissedSoFar l.table l.call.sector l.due l.pairing l.coasted l.dropped l.rank
