use Rattle.std.proofs.Common.{rules, arith, length, ◌-◌}
use Rattle.laws.proofs.Parts.{part_length}
use Rattle.passes.proofs.From.{on_at}
use Rattle.passes.proofs.open_from.Goals as goal

pub returns-in-Some : goal.returns-in-Some
returns-in-Some c =
    let s = c.args.closings.now in
    let long = part_length s c.args.front (length s) (search rules) in
    let found = c.in-Some.ensures in
    (search rules, (omega (arith, found.0, long), λ k h l z. found.1 (k - c.args.front) (omega arith) (omega (arith, z, on_at s c.args.front k l (omega (arith, found.0, long))))))

pub returns-in-None : goal.returns-in-None
returns-in-None c =
    let s = c.args.closings.now in
    let long = part_length s c.args.front (length s) (search rules) in
    let none = c.in-None.ensures in
    (search rules, (search rules, λ k h l z. none (k - c.args.front) (omega (arith, long)) (omega (arith, z, on_at s c.args.front k l h))))
