use mathlib.Core.Path.{sym, ◌∙◌}
use Rattle.laws.proofs.Tests.{each_none, each_more, each_done, each_fails}
use Rattle.laws.proofs.Sums.{row_in}
use Rattle.matching.specs.Answer.{scores_ok}
use Rattle.matching.proofs.Walks.{row_tested}
use Rattle.matching.proofs.scores_ok.Goals as goal

pub loop-track-init : goal.loop-track-init
loop-track-init c = each_none _

pub returns-then-not-row_ok : goal.returns-then-not-row_ok
unfolding scores_ok
returns-then-not-row_ok c =
    sym (each_fails _ c.loop-track.track _ c.loop-track-test.true (sym (row_tested _ c.loop-track.track _ _ _ _ _ c.row.ensures (row_in c.loop-track.track _ _ _ c.loop-track-test.true c.requires.0) c.requires.1 c.row_ok.ensures) ∙ c.if-not-row_ok.true))

pub loop-track-preserved : goal.loop-track-preserved
loop-track-preserved c =
    each_more _ c.loop-track.track c.loop-track.invariant (sym (row_tested _ c.loop-track.track _ _ _ _ _ c.row.ensures (row_in c.loop-track.track _ _ _ c.loop-track-test.true c.requires.0) c.requires.1 c.row_ok.ensures) ∙ c.if-not-row_ok.false)

pub returns : goal.returns
unfolding scores_ok
returns c = sym (each_done _ c.loop-track.track _ c.loop-track.auto.track-end c.loop-track-test.false c.loop-track.invariant)
