use Rattle.glider.specs.Scene.{batch}
use Rattle.glider.proofs.returns.Goals as goal

pub returns : goal.returns
unfolding batch
returns c = cc (c.report-ridge.ensures, c.report-glider.ensures)
