use lib.ListN.{length}
use Rattle.laws.specs.Lists.{at}
use Rattle.paths.specs.State.{Flips}
use Rattle.paths.specs.Held.{SamePairs, SameNumbers}
use Rattle.paths.proofs.flip.Given as goal

abbrev pub invariant-loop-vacant : goal.invariant-loop-vacant
invariant-loop-vacant l = SamePairs l.initial.pairs l.pairs × (SameNumbers l.initial.pairs l.pairs
    × Flips l.sheet.cells.now l.sheet.reports (length l.initial.pairs.prices.now) l.initial.pairs.prices.now l.initial.pairs.discounts.now l.track l.tree.via.now l.tree.closings.now l.initial.pairs.pairing.now l.initial.pairs.owner.now l.pairs.pairing.now l.pairs.owner.now l.vacant)

abbrev pub decreases-loop-vacant : goal.decreases-loop-vacant
decreases-loop-vacant l = at l.tree.closings.now l.vacant
