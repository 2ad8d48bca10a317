use Rattle.fates.specs.Fates.{is_shown}
use Rattle.fates.proofs.is_shown.Goals as goal

pub returns : goal.returns
unfolding is_shown
returns c = rw c.unpack.ensures
