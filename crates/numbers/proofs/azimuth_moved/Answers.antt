use Rattle.std.proofs.Common.{arith, to_z-of_z}
use Rattle.numbers.proofs.Forms.{moved_form}
use Rattle.numbers.proofs.azimuth_moved.Goals as goal

pub returns : goal.returns
returns c = grind (arith, to_z-of_z, moved_form)
