use mathlib.Core.Path.{sym, ◌∙◌}
use Rattle.laws.proofs.Tests.{each_none, each_more, each_done, each_fails}
use Rattle.matching.specs.Answer.{pairing_ok}
use Rattle.matching.proofs.pairing_ok.Goals as goal

pub returns-then-not-entry_ok : goal.returns-then-not-entry_ok
unfolding pairing_ok
returns-then-not-entry_ok c = sym (each_fails _ c.loop-track.track _ c.loop-track-test.true (sym c.entry_ok.ensures ∙ c.if-not-entry_ok.true))

pub loop-track-init : goal.loop-track-init
loop-track-init c = each_none _

pub loop-track-preserved : goal.loop-track-preserved
loop-track-preserved c = each_more _ c.loop-track.track c.loop-track.invariant (sym c.entry_ok.ensures ∙ c.if-not-entry_ok.false)

pub returns : goal.returns
unfolding pairing_ok
returns c = sym (each_done _ c.loop-track.track _ c.loop-track.auto.track-end c.loop-track-test.false c.loop-track.invariant)
