use mathlib.Core.Path.{sym, ◌∙◌}
use Rattle.paths.proofs.Growth.{ended}
use Rattle.paths.proofs.Same.{same_tree}
use Rattle.paths.proofs.search.Goals as goal

pub returns : goal.returns
returns c =
    let I = c.loop-sheet.invariant in
    let E = c.end_of.ensures in
    (same_tree (same_tree c.set_out-s.ensures.0 I.0) E.0, ended I.1 (sym c.is_taken.ensures ∙ c.loop-sheet-test.false) E.1)
