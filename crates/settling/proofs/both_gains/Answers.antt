use Rattle.settling.proofs.GainLaws.{agrees, as_listed, gain_a_most, gain_b_most}
use Rattle.settling.specs.Gains.{degraded_a, degraded_b, row_a, row_b, gain, gain_a, gain_b}
use Rattle.laws.specs.Tests.{each}
use mathlib.Core.Path.{◌≡◌, refl, ap, ◌∙◌}
use Rattle.settling.proofs.both_gains.Goals as goal

pub returns : goal.returns
unfolding gain_a gain_b row_a row_b agrees each
returns c =
    let s = c.args in
    let ea : c.of.result ≡ gain_a s.t s.p = c.of.ensures ∙ ap (gain s.t s.p degraded_a) (as_listed _ row_a s.p _ refl refl c.requires) in
    let eb : c.of-2.result ≡ gain_b s.t s.p = c.of-2.ensures ∙ ap (gain s.t s.p degraded_b) (as_listed _ row_b s.p _ refl refl c.requires) in
    record { as_listed = (ea, eb); gains_in_range = rw (ea, eb) (gain_a_most s.t s.p c.requires, gain_b_most s.t s.p c.requires) }
