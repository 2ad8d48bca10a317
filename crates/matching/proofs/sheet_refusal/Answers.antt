use mathlib.Core.Path.{refl, sym, ◌∙◌}
use Rattle.std.proofs.lemmas.Result.{err_from_is_err_and}
use native.Mathlib.Omega.{arith}
use native.Mathlib.Nat.{mul-le-mul}
use Rattle.std.proofs.lemmas.List.{length-take-le}
use Rattle.matching.specs.Answer.{sheet_refusal}
use Rattle.matching.proofs.Walks.{take_cells}
use Rattle.matching.proofs.Facts.{sizes, last_test}
use Rattle.matching.proofs.sheet_refusal.Goals as goal

pub returns-in_err-refuse_unless : goal.returns-in_err-refuse_unless
unfolding sheet_refusal
returns-in_err-refuse_unless c =
    let p = err_from_is_err_and c.from_residual.result c.from_residual.ensures.1 in
    rw (p.1, p.2, c.in_err-refuse_unless.ensures.1, sym c.sizes_ok-sizes.ensures ∙ c.in_err-refuse_unless.ensures.0) refl

pub overflow_mul-tracks : goal.overflow_mul-tracks
overflow_mul-tracks c =
    let z = sizes _ _ _ _ _ _ (sym c.sizes_ok-sizes.ensures ∙ c.in_ok-refuse_unless.ensures) in
    omega (arith, mul-le-mul z.tracks_few z.reports_few)

pub slice_bounds-cells_ok-end : goal.slice_bounds-cells_ok-end
slice_bounds-cells_ok-end c = sym (length-take-le _ _ (sizes _ _ _ _ _ _ (sym c.sizes_ok-sizes.ensures ∙ c.in_ok-refuse_unless.ensures)).cells_long)

pub returns : goal.returns
unfolding sheet_refusal
returns c =
    let good = sym c.sizes_ok-sizes.ensures ∙ c.in_ok-refuse_unless.ensures in
    let cut = take_cells _ _ c.args.sheet.now c.cells_ok.result (sizes _ _ _ _ _ _ good).cells_long c.cells_ok.ensures in
    rw (good, sym cut) (last_test c.refuse_unless-2.result c.cells_ok.result _ c.refuse_unless-2.ensures)
