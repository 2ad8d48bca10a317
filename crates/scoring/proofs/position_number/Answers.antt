use Prim.Native.Nat.{◌+◌, ◌*◌, ◌/◌, ◌^◌, ◌<◌}
use mathlib.Core.Path.{◌≡◌, refl}
use native.Mathlib.Omega.{arith}
use Rattle.scoring.specs.Position.{position_most, eighths_squared, reaches, position_of}
use Rattle.scoring.proofs.Largest.{among_all, among_half, among_end}
use Rattle.scoring.proofs.PositionLaws.{sides_fit, reaches_downward}
use Rattle.scoring.proofs.position_number.Goals as goal
use Rattle.scoring.proofs.position_number.Goals.{After-reached-up, After-square-2}

-- the right side of the rule fits
off_fits : (c : After-square-2) → eighths_squared * (c.square.result + c.square-2.result) < 2 ^ 63
off_fits c =
    rw (c.square.ensures, c.by_sigma-2.ensures, c.square-2.ensures, c.by_sigma-3.ensures)
    (sides_fit c.args.dr c.args.da c.args.range_sigma c.args.azimuth_sigma 0 (omega arith) (omega arith) (omega arith) (omega arith) (omega arith)).1

-- the code's test is the rule's
told : (c : After-reached-up) →
    reaches c.args.dr c.args.da c.args.range_sigma c.args.azimuth_sigma (c.loop-width.low + c.loop-width.width / 2) ≡ c.reached-up.result
unfolding reaches
told c = cc

pub overflow_add-off : goal.overflow_add-off
overflow_add-off c = omega (arith, off_fits (goal.at.overflow_add-off c).After-square-2)

pub overflow_mul-off : goal.overflow_mul-off
overflow_mul-off c = omega (arith, off_fits (goal.at.overflow_mul-off c).After-square-2)

pub loop-width-init : goal.loop-width-init
loop-width-init c = among_all _ position_most 9 refl

pub loop-width-preserved : goal.loop-width-preserved
loop-width-preserved c =
    rw c.raised-low.ensures
    (among_half _ position_most c.reached-up.result (reaches_downward _ _ _ _ position_most) c.loop-width.invariant c.loop-width-test.true (told (goal.at.loop-width-preserved c).After-reached-up))

pub returns : goal.returns
unfolding position_of
returns c = among_end _ position_most c.loop-width.invariant c.loop-width-test.false
