use mathlib.Core.Path.{refl}
use Rattle.engine.proofs.Begin.{won}
use Rattle.engine.proofs.oust.Goals as goal

pub returns : goal.returns
returns c = ((refl, (refl, (refl, refl))), ((refl, refl), won c.requires c.if-loser-pairs.false))
