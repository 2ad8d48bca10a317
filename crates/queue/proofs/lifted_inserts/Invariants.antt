use lib.ListN.{length}
use Rattle.paths.specs.Held.{SamePairs, SameTree, SearchLists}
use Rattle.queue.specs.Held.{Lifting}
use Rattle.queue.proofs.lifted_inserts.Given as goal

abbrev pub invariant-loop : goal.invariant-loop
invariant-loop l = (SamePairs l.initial.pairs l.pairs × SameTree l.initial.tree l.tree) × (Lifting l.sheet (length l.initial.pairs.prices.now) l.pairs l.slack × SearchLists l.sheet l.tree)
