use Rattle.glider.specs.Scene.{table}
use Rattle.glider.proofs.tracks.Goals as goal

pub returns : goal.returns
unfolding table
returns c = cc (c.track-ridge.ensures, c.track-glider.ensures)
