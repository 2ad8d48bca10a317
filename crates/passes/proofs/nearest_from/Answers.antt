use Rattle.passes.proofs.From.{from_nearest}
use Rattle.passes.proofs.nearest_from.Goals as goal

pub returns : goal.returns
returns c = from_nearest _ _ _ _ c.requires _ c.nearest.ensures
