use mathlib.Core.Path.{refl}
use Rattle.paths.proofs.Rows.{fair, offered}
use Rattle.paths.proofs.offer_from.Goals as goal

pub relax-requires : goal.relax-requires
relax-requires c = fair _ _ _ _ _ _ _ _ _ c.requires _ c.row.ensures

pub returns : goal.returns
returns c = ((refl, (refl, refl)), (offered _ _ _ _ _ _ _ _ _ c.requires _ c.row.ensures _ _ c.relax.ensures, refl))
