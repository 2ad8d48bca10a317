use Prim.Native.Nat.{◌<◌}
use mathlib.Core.Path.{refl}
use native.Mathlib.Omega.{arith}
use Rattle.matching.specs.Pairing.{left_out}
use Rattle.engine.proofs.Begin.{claimed_price, claimed_pair, contested}
use Rattle.engine.proofs.claim.Goals as goal

pub returns-in_default : goal.returns-in_default
returns-in_default c =
    let least = rw c.row-cells.ensures at c.in_default.ensures in
    ((refl, (refl, (refl, refl))), (refl, claimed_price c.requires least.capped least.below))

pub oust-requires : goal.oust-requires
oust-requires c =
    let least = rw c.row-cells.ensures at c.in-Some.ensures in
    let in_range : c.in-Some.best.score < left_out = omega (arith, least.0) in
    contested c.requires least.1.capped least.1.below in_range (least.1.met in_range)

pub returns : goal.returns
returns c =
    let least = rw c.row-cells.ensures at c.in-Some.ensures in
    let free = rw c.row-cells.ensures at c.in-Some-free_report.ensures in
    ((refl, (refl, (refl, refl))), (refl, claimed_pair c.requires least.1.capped least.1.below free.0 (omega (arith, least.0)) free.1.0 free.1.1))
