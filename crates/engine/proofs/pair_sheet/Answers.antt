use mathlib.Core.Path.{sym}
use native.Mathlib.Omega.{arith}
use borrow.Author.Rules.{rules}
use lib.Seq.{length-take-le}
use Rattle.engine.proofs.Serve.{sizes, tested, serves}
use Rattle.engine.proofs.pair_sheet.Goals as goal

pub overflow_mul-tracks : goal.overflow_mul-tracks
overflow_mul-tracks c =
    let given = c.args in
    omega (arith, (sizes given.tracks given.reports given.sheet.now given.pairing.now given.prices.now given.discounts.now (search rules)).cells_long)

pub slice_bounds-pair_cells-end : goal.slice_bounds-pair_cells-end
slice_bounds-pair_cells-end c =
    let given = c.args in
    sym (length-take-le _ _ (sizes given.tracks given.reports given.sheet.now given.pairing.now given.prices.now given.discounts.now (search rules)).cells_long)

pub slice_bounds-pair_cells-end-2 : goal.slice_bounds-pair_cells-end-2
slice_bounds-pair_cells-end-2 c =
    let given = c.args in
    (sizes given.tracks given.reports given.sheet.now given.pairing.now given.prices.now given.discounts.now (search rules)).pairing_long

pub slice_bounds-pair_cells-end-3 : goal.slice_bounds-pair_cells-end-3
slice_bounds-pair_cells-end-3 c =
    let given = c.args in
    sym (length-take-le _ _ (sizes given.tracks given.reports given.sheet.now given.pairing.now given.prices.now given.discounts.now (search rules)).pairing_long)

pub slice_bounds-pair_cells-end-4 : goal.slice_bounds-pair_cells-end-4
slice_bounds-pair_cells-end-4 c =
    let given = c.args in
    (sizes given.tracks given.reports given.sheet.now given.pairing.now given.prices.now given.discounts.now (search rules)).prices_long

pub slice_bounds-pair_cells-end-5 : goal.slice_bounds-pair_cells-end-5
slice_bounds-pair_cells-end-5 c =
    let given = c.args in
    sym (length-take-le _ _ (sizes given.tracks given.reports given.sheet.now given.pairing.now given.prices.now given.discounts.now (search rules)).prices_long)

pub slice_bounds-pair_cells-end-6 : goal.slice_bounds-pair_cells-end-6
slice_bounds-pair_cells-end-6 c =
    let given = c.args in
    (sizes given.tracks given.reports given.sheet.now given.pairing.now given.prices.now given.discounts.now (search rules)).discounts_long

pub slice_bounds-pair_cells-end-7 : goal.slice_bounds-pair_cells-end-7
slice_bounds-pair_cells-end-7 c =
    let given = c.args in
    sym (length-take-le _ _ (sizes given.tracks given.reports given.sheet.now given.pairing.now given.prices.now given.discounts.now (search rules)).discounts_long)

pub pair_cells-requires : goal.pair_cells-requires
pair_cells-requires c =
    let given = c.args in
    tested given.tracks given.reports given.sheet.now given.pairing.now given.prices.now given.discounts.now (search rules)

pub returns : goal.returns
returns c =
    let given = c.args in
    serves given.tracks given.reports given.sheet.now given.pairing.now given.prices.now given.discounts.now (search rules) _ _ _ c.pair_cells.ensures
