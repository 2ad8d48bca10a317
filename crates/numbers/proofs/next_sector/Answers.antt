use Rattle.numbers.specs.Sectors.{next_sector}
use Rattle.std.proofs.Common.{rules}
use Rattle.numbers.proofs.next_sector.Goals as goal

pub returns : goal.returns
unfolding next_sector
returns c = search rules
