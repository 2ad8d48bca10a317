use Rattle.lines.proofs.Numerals.{line_short}
use native.Mathlib.Omega.{arith}
use Rattle.lines.proofs.Writing.{lining_room, lining_more, lining_end}
use Rattle.lines.proofs.put_line.Goals as goal

pub bounds-out-at : goal.bounds-out-at
bounds-out-at c =
    let r = lining_room _ c.loop-i.invariant c.loop-i-test.true c.put_number-at.ensures in
    omega (arith, r.0, r.1)

pub loop-i-preserved : goal.loop-i-preserved
loop-i-preserved c = lining_more c.loop-i.invariant c.loop-i-test.true c.put_number-at.ensures c.separator.ensures

pub returns : goal.returns
returns c =
    let put = lining_end c.loop-i.invariant (omega arith) c.loop-i-test.false in
    record { put = put; in_room = omega (arith, put.past, line_short c.args.numbers.now) }
