use native.Mathlib.Omega.{arith}
use Rattle.laws.proofs.Sums.{sum_none, sum_more, sum_done, row_in}
use borrow.Author.Rules.{rules}
use Rattle.matching.specs.Pairing.{total}
use Rattle.matching.proofs.Facts as facts
use Rattle.matching.proofs.total_of.Goals as goal

pub loop-track-init : goal.loop-track-init
loop-track-init c = (sum_none _, search rules)

pub counted-sum-requires : goal.counted-sum-requires
counted-sum-requires c = (c.loop-track-test.true, (row_in c.loop-track.track _ _ _ c.loop-track-test.true c.requires.1.0, (facts.valid _ _ c.requires.1.1).there c.loop-track.track c.loop-track-test.true))

pub loop-track-preserved : goal.loop-track-preserved
loop-track-preserved c = (sum_more _ _ _ _ c.loop-track.invariant.0 c.counted-sum.ensures.0, omega arith)

pub returns : goal.returns
unfolding total
returns c = (sum_done c.loop-track.track _ _ _ c.loop-track.auto.track-end c.loop-track-test.false c.loop-track.invariant.0, omega arith)
