use Rattle.glider.proofs.Shown.{call_shows_the_glider}
use Rattle.glider.proofs.marks.Goals as goal

pub returns : goal.returns
returns c = call_shows_the_glider _ _ (rw (c.tracks-table.ensures, c.returns-batch.ensures, c.sigmas.ensures) at c.serve_sector.ensures)
