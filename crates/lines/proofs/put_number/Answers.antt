use native.Mathlib.Omega.{arith}
use Rattle.lines.proofs.Numerals.{numeral_short, spelled}
use Rattle.lines.proofs.put_number.Goals as goal

pub put_text-requires : goal.put_text-requires
put_text-requires c =
    let given = c.args in
    rw (c.decimal-k.ensures.digits, c.from.ensures, spelled given.n c.decimal-k.result (omega arith) (rw c.from.ensures at c.decimal-k.ensures.len)) (omega (arith, numeral_short given.n))

pub returns : goal.returns
returns c =
    rw (c.decimal-k.ensures.digits, c.from.ensures, spelled c.args.n c.decimal-k.result (omega arith) (rw c.from.ensures at c.decimal-k.ensures.len)) at c.put_text.ensures
