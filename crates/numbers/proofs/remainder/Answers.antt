use Rattle.std.proofs.Common.{arith, to_z-of_z}
use Rattle.numbers.proofs.Forms.{remainder_euclid}
use Rattle.numbers.proofs.WholeLaws.{remainder_lies}
use Rattle.numbers.proofs.remainder.Goals as goal

pub returns : goal.returns
returns c = grind (arith, to_z-of_z, remainder_euclid, remainder_lies)
