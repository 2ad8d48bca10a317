use Rattle.laws.proofs.Rounds.{round_more, round_end}
use Rattle.glider.specs.Nearest.{nearest_of}
use Rattle.glider.proofs.nearest_free.Goals as goal

pub loop-j-preserved : goal.loop-j-preserved
loop-j-preserved c = round_more _ c.loop-j.invariant c.loop-j-test.true c.nearer-nearest.ensures

pub returns : goal.returns
unfolding nearest_of
returns c = round_end _ c.loop-j.invariant c.loop-j-test.false
