use Rattle.std.proofs.Common.{arith, to_z-of_z}
use Rattle.numbers.specs.Azimuth.{azimuth_difference}
use Rattle.numbers.proofs.azimuth_difference.Goals as goal

pub returns : goal.returns
unfolding azimuth_difference
returns c = grind (arith, to_z-of_z)
