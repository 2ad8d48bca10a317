use Prim.Native.Nat.{ℕ, ◌<◌, ◌+◌, ◌*◌}
use mathlib.Core.Path.{◌≡◌}
use native.Mathlib.Omega.{arith}
use borrow.Author.Tests.{lt-ltb, ne_eqb}
use Rattle.laws.specs.Lists.{at}
use Rattle.matching.specs.Pairing.{none}
use Rattle.matching.proofs.Walks.{none_each, row_at}
use Rattle.matching.proofs.entry_ok.Goals as goal

pub returns : goal.returns
returns c =
    let given = c.args in
    let x : ℕ = at given.pairing.now given.track in
    let h : x < given.sheet.reports = omega arith in
    let cell : at given.sheet.cells.now (given.track * given.sheet.reports + x) ≡ none → ⊥ = rw (c.row.ensures, row_at given.sheet.reports given.track x given.sheet.cells.now h) at c.if-row-place.false in
    rw (ne_eqb x none c.if-report.false, lt-ltb x given.sheet.reports h, ne_eqb _ none cell, c.contains.ensures.value) (none_each x given.track given.pairing.now (omega arith))
