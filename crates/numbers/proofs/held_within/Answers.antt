use Rattle.std.proofs.Common.{arith, to_z-of_z}
use Rattle.numbers.proofs.Forms.{within_clamp}
use Rattle.numbers.proofs.WholeLaws.{within_lies}
use Rattle.numbers.proofs.held_within.Goals as goal

pub returns : goal.returns
returns c = grind (arith, to_z-of_z, within_clamp, within_lies)
