use mathlib.Core.Path.{◌∙◌}
use Rattle.glider.proofs.Story.{nearest_first_loses_the_glider}
use Rattle.glider.proofs.old_filter.Goals as goal

pub returns : goal.returns
returns c =
    c.nearest_first.ensures
    ∙ rw c.sheet-sheet.ensures nearest_first_loses_the_glider
