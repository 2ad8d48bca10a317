use Rattle.std.proofs.Common.{◌≡◌, ◌<◌, length, ◌⊎◌}
use Rattle.laws.specs.Lists.{at}
use Rattle.matching.specs.Pairing.{none}
use Rattle.passes.specs.Cells.{last_key}
use Rattle.passes.proofs.first_free.Given as goal

abbrev pub invariant-loop-j : goal.invariant-loop-j
invariant-loop-j l = (l.best ≡ last_key) ⊎ ((l.best < length l.cells) × ((at l.cells l.best ≡ l.score) × (at l.owner l.best ≡ none)))
