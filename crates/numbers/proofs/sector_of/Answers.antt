use Rattle.numbers.specs.Sectors.{sector_of}
use Rattle.std.proofs.Common.{rules}
use Rattle.numbers.proofs.sector_of.Goals as goal

pub returns : goal.returns
unfolding sector_of
returns c = search rules
