use Rattle.std.proofs.Common.{arith, to_z-of_z}
use Rattle.numbers.proofs.Forms.{from_zero_clamp}
use Rattle.numbers.proofs.WholeLaws.{from_zero_lies}
use Rattle.numbers.proofs.held_from_zero.Goals as goal

pub returns : goal.returns
returns c = grind (arith, to_z-of_z, from_zero_clamp, from_zero_lies)
