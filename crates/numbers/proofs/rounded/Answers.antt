use Rattle.std.proofs.Common.{arith, to_z-of_z}
use Rattle.numbers.proofs.Forms.{rounded_below, rounded_up}
use Rattle.numbers.proofs.rounded.Goals as goal

pub returns-then-z-lt0 : goal.returns-then-z-lt0
returns-then-z-lt0 c = grind (arith, to_z-of_z, rounded_below)

pub returns-else-z-lt0 : goal.returns-else-z-lt0
returns-else-z-lt0 c = grind (arith, to_z-of_z, rounded_up)
