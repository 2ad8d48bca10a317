use Rattle.std.proofs.Common.{refl}
use Rattle.numbers.specs.Sectors.{calls_ahead}
use Rattle.numbers.proofs.calls_ahead.Goals as goal

pub returns : goal.returns
unfolding calls_ahead
returns c = refl
