use Rattle.std.proofs.Common.{◌≡◌, ℕ, ◌+◌, ◌<◌, ◌≤◌, ◌/◌, ◌%◌, length}
use Rattle.laws.specs.Lists.{at}
use Rattle.passes.specs.Cells.{near, key_places}
use Rattle.passes.proofs.near_key.Given as goal

abbrev pub invariant-loop-j : goal.invariant-loop-j
invariant-loop-j l = ((k : ℕ) → k < l.j → l.best / key_places ≤ at l.labels k + at l.closings k) × (l.best / key_places < near → (l.best % key_places < length l.labels) × (at l.labels (l.best % key_places) + at l.closings (l.best % key_places) ≡ l.best / key_places))
