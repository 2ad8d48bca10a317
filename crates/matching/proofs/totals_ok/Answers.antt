use Rattle.matching.specs.Answer.{totals_ok}
use Rattle.matching.proofs.totals_ok.Goals as goal

pub returns : goal.returns
unfolding totals_ok
returns c = rw (c.sum_of-paid.ensures.0, c.total_of-total.ensures.0, c.sum_of-off.ensures.0, c.requires.exact.0, c.requires.exact.1)
