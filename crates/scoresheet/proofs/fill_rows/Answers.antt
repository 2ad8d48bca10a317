use Rattle.records.specs.Fields.{WellFormed}
use Rattle.scoresheet.specs.Cells.{row_of, cells_of}
use Rattle.scoresheet.proofs.Rows.{row_part, next_row, row_ready, rows_more, rows_end}
use mathlib.Core.Path.{◌∙◌}
use native.Mathlib.Omega.{arith}
use Rattle.scoresheet.proofs.fill_rows.Goals as goal

pub offset_bounds-table-k : goal.offset_bounds-table-k
offset_bounds-table-k c =
    omega (arith, (next_row c.requires.ready c.requires.rows_ready c.loop-rank.invariant c.loop-rank-test.true).there, c.requires.ready.few_slots)

pub bounds-table-k : goal.bounds-table-k
bounds-table-k c =
    (next_row c.requires.ready c.requires.rows_ready c.loop-rank.invariant c.loop-rank-test.true).there

pub fill_row-requires : goal.fill_row-requires
fill_row-requires c =
    let n = next_row c.requires.ready c.requires.rows_ready c.loop-rank.invariant c.loop-rank-test.true in
    let t : WellFormed c.unpack.result c.args.call.sector = rw c.unpack.ensures n.track in
    row_ready c.requires.ready t (row_part _ _ _ n.room)

pub loop-rank-preserved : goal.loop-rank-preserved
unfolding row_of
loop-rank-preserved c =
    let n = next_row c.requires.ready c.requires.rows_ready c.loop-rank.invariant c.loop-rank-test.true in
    rows_more _ c.loop-rank.invariant c.loop-rank-test.true n.room
    (c.fill_row.ensures ∙ rw c.unpack.ensures)

pub returns : goal.returns
unfolding cells_of
returns c = rw (← c.requires.rows_ready.due_is) (rows_end c.loop-rank.invariant c.loop-rank-test.false)
