use Rattle.records.specs.Bytes.{track_of}
use Rattle.settling.specs.Settle.{without_pair}
use Rattle.std.specs.Prelude.{Some, None}
use mathlib.Core.Path.{◌≡◌, refl}
use Rattle.walk.specs.Table.{coasted_one, dropped_one}
use borrow.Author.Tests.{eq-eqb}
use native.Mathlib.Omega.{arith}
use Rattle.walk.proofs.missed_one.Goals as goal

pub returns-in-Some : goal.returns-in-Some
unfolding coasted_one dropped_one
returns-in-Some c =
    let k : without_pair (track_of c.args.slot) c.args.sector ≡ Some c.in-Some.field-0 = cc in
    rw (eq-eqb _ _ c.if-number-ne-NONE.false, k) (record { coasts = (refl, omega arith); drops = (refl, omega arith) })

pub returns-in-None : goal.returns-in-None
unfolding coasted_one dropped_one
returns-in-None c =
    let k : without_pair (track_of c.args.slot) c.args.sector ≡ None = cc in
    rw (eq-eqb _ _ c.if-number-ne-NONE.false, k) (record { coasts = (refl, omega arith); drops = (refl, omega arith) })
