use Prim.Native.Nat.{◌-◌}
use Rattle.paths.specs.Held.{SameTree, Standing}
use Rattle.paths.proofs.search.Given as goal

abbrev pub invariant-loop-sheet : goal.invariant-loop-sheet
invariant-loop-sheet l = SameTree l.initial.tree l.tree × Standing l.sheet l.track l.pairs l.s l.tree

abbrev pub decreases-loop-sheet : goal.decreases-loop-sheet
decreases-loop-sheet l = l.sheet.reports - l.s.closed
