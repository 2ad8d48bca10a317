use native.Mathlib.Omega.{arith}
use Rattle.laws.proofs.Sums.{sum_none, sum_more, sum_done}
use Rattle.matching.specs.Pairing.{sum_of_scores}
use Rattle.sector.proofs.score_sum.Goals as goal

pub loop-track-init : goal.loop-track-init
loop-track-init c = (omega arith, sum_none _)

pub loop-track-preserved : goal.loop-track-preserved
loop-track-preserved c =
    let i = c.loop-track.invariant in
    (omega (arith, c.pair_score-sum.ensures.1, i.0), sum_more _ _ _ _ i.1 c.pair_score-sum.ensures.0)

pub returns : goal.returns
unfolding sum_of_scores
returns c = sum_done _ _ _ _ c.loop-track.auto.track-end c.loop-track-test.false c.loop-track.invariant.1
