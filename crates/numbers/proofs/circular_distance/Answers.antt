use Rattle.std.proofs.Common.{arith}
use Rattle.numbers.specs.Whole.{circular_distance}
use Rattle.numbers.proofs.circular_distance.Goals as goal

pub returns : goal.returns
unfolding circular_distance
returns c = grind arith
