use Rattle.fates.specs.Fates.{fate_number}
use Rattle.sector.specs.Serve.{tally}
use Rattle.sector.proofs.Answer.count_all.Goals as goal

pub returns : goal.returns
unfolding tally fate_number
returns c = rw (c.count_fate.ensures, c.count_fate-2.ensures, c.count_fate-3.ensures, c.count_fate-4.ensures)
