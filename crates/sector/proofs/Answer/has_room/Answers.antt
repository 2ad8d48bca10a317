use mathlib.Core.Bool.{Bool, true, false, not}
use mathlib.Core.Path.{◌≡◌, ap, ◌∙◌}
use Rattle.std.specs.Prelude.{is_none}
use Rattle.laws.specs.Lists.{first_index}
use Rattle.laws.proofs.Search.{position_found, none_found}
use Rattle.laws.proofs.Tests.{holds_first}
use Rattle.sector.specs.Serve.{rooms}
use Rattle.sector.proofs.Answer.has_room.Goals as goal

flip : (a b : Bool) → a ≡ not b → b ≡ not a
flip a true e = rw e
flip a false e = rw e

pub returns : goal.returns
unfolding rooms
returns c =
    flip _ _ c.is_none.ensures
    ∙ ap is_none (c.first_broken.ensures ∙ position_found not _)
    ∙ none_found (first_index not _) 5
    ∙ holds_first _
