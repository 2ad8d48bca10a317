use Rattle.glider.proofs.Story.{scene_cells}
use mathlib.Core.Path.{◌∙◌}
use Rattle.glider.proofs.sheet.Goals as goal

pub returns : goal.returns
returns c = c.score_sheet.ensures.sheet_after ∙ rw (c.tracks-table.ensures, c.returns-batch.ensures, c.sigmas.ensures) (scene_cells 0 0 0 0)
