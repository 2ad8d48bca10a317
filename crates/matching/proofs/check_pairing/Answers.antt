use mathlib.Core.Path.{sym, ◌∙◌}
use Rattle.std.proofs.lemmas.Result.{err_from_is_err_and}
use Rattle.matching.specs.Answer.{check_answer}
use Rattle.matching.proofs.Facts.{passes, passed_sizes, refusal_stands, no_zero}
use Rattle.matching.proofs.Beyond as cut
use Rattle.matching.proofs.check_pairing.Goals as goal

pub returns-in_err-sheet_refusal : goal.returns-in_err-sheet_refusal
unfolding check_answer
returns-in_err-sheet_refusal c =
    let p = err_from_is_err_and c.from_residual.result c.from_residual.ensures.1 in
    let h = c.in_err-sheet_refusal.ensures in
    rw (p.1, p.2) (h ∙ refusal_stands _ _ _ _ _ _ (λ e. no_zero _ (h ∙ e)) _)

pub slice_bounds-judge-end : goal.slice_bounds-judge-end
slice_bounds-judge-end c = sym (cut.cut_pairing _ _ _ _ _ _ (passed_sizes _ _ _ _ _ _ (sym c.in_ok-sheet_refusal.ensures)))

pub slice_bounds-judge-end-2 : goal.slice_bounds-judge-end-2
slice_bounds-judge-end-2 c = sym (cut.cut_prices _ _ _ _ _ _ (passed_sizes _ _ _ _ _ _ (sym c.in_ok-sheet_refusal.ensures)))

pub slice_bounds-judge-end-3 : goal.slice_bounds-judge-end-3
slice_bounds-judge-end-3 c = sym (cut.cut_discounts _ _ _ _ _ _ (passed_sizes _ _ _ _ _ _ (sym c.in_ok-sheet_refusal.ensures)))

pub judge-requires : goal.judge-requires
judge-requires c =
    let e = sym c.in_ok-sheet_refusal.ensures in
    let z = passed_sizes _ _ _ _ _ _ e in
    rw (cut.cut_pairing _ _ _ _ _ _ z)
    (record {
      sizes = rw (cut.cut_pairing _ _ _ _ _ _ z) at (cut.cut_fits _ _ _ _ _ _ z);
      exact = (cut.cut_prices _ _ _ _ _ _ z, cut.cut_discounts _ _ _ _ _ _ z);
      tested = (passes _ _ _ _ _ _ e).1;
    })

pub returns : goal.returns
returns c =
    let z = passed_sizes _ _ _ _ _ _ (sym c.in_ok-sheet_refusal.ensures) in
    rw (cut.cut_pairing _ _ _ _ _ _ z) at c.judge.ensures ∙ cut.cut_answer _ _ _ _ _ _ z
