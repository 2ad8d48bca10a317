use Rattle.std.proofs.Common.{◌≡◌, ◌-◌, ◌<◌, ◌%◌, length}
use Rattle.laws.specs.Lists.{at}
use Rattle.matching.specs.Pairing.{none}
use Rattle.passes.specs.Cells.{key_places}
use Rattle.lifting.proofs.next_track.Given as goal

abbrev pub invariant-loop-j : goal.invariant-loop-j
invariant-loop-j l = 0 < l.best → ((l.best - 1) % key_places < length l.prices) × (at l.pairing ((l.best - 1) % key_places) ≡ none)
