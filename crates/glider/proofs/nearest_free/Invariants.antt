use lib.ListN.{length}
use Rattle.matching.specs.Pairing.{none}
use Rattle.laws.proofs.Fold.{Stepped}
use Rattle.glider.specs.Nearest.{nearer_of}
use Rattle.laws.specs.Lists.{numbers}
use Rattle.glider.proofs.nearest_free.Given as goal

abbrev pub invariant-loop-j : goal.invariant-loop-j
invariant-loop-j l = Stepped (nearer_of l.row l.taken) (numbers (length l.row)) none l.nearest l.j
