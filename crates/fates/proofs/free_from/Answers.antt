use Prim.Native.Nat.{◌≤◌}
use mathlib.Core.Path.{sym, ◌∙◌}
use Rattle.std.proofs.lemmas.List.{take_rest}
use lib.ListN.{length}
use native.Mathlib.Omega.{arith}
use borrow.Author.Rules.{rules}
use Rattle.records.specs.Bytes.{is_free}
use Rattle.laws.proofs.Search.{first_upto}
use Rattle.fates.specs.Fates.{free_slot}
use Rattle.fates.proofs.Telling.{position_past}
use Rattle.fates.proofs.free_from.Goals as goal

pub offset_bounds-table-from : goal.offset_bounds-table-from
unfolding free_slot
offset_bounds-table-from c =
    let fits : c.args.from ≤ length c.args.table.now = omega (arith, c.requires, first_upto is_free c.args.table.now) in
    search rules

pub slice_bounds-first_free-count : goal.slice_bounds-first_free-count
unfolding free_slot
slice_bounds-first_free-count c = omega (arith, c.requires, first_upto is_free c.args.table.now)

pub slice_bounds-first_free-start : goal.slice_bounds-first_free-start
unfolding free_slot
slice_bounds-first_free-start c =
    let fits : c.args.from ≤ length c.args.table.now = omega (arith, c.requires, first_upto is_free c.args.table.now) in
    search rules

pub returns-in_err-first_free : goal.returns-in_err-first_free
returns-in_err-first_free c =
    let beyond = sym c.in_err-first_free.was ∙ rw (take_rest c.args.table.now c.args.from) at c.first_free.ensures in
    rw (position_past c.args.table.now c.args.from c.requires, ← beyond) c.from_residual.ensures

pub returns : goal.returns
returns c =
    let beyond = sym c.in_ok-first_free.was ∙ rw (take_rest c.args.table.now c.args.from) at c.first_free.ensures in
    rw (position_past c.args.table.now c.args.from c.requires, ← beyond)
