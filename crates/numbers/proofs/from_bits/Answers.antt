use Rattle.std.proofs.Common.{arith, to_z-of_z}
use Rattle.numbers.proofs.Forms.{signed16_is}
use Rattle.numbers.proofs.from_bits.Goals as goal

pub returns : goal.returns
returns c = grind (arith, to_z-of_z, signed16_is)
