use Rattle.std.proofs.Common.{◌≡◌, ℕ, ◌<◌, ◌≤◌, length, ◌⊎◌}
use Rattle.laws.specs.Lists.{at}
use Rattle.passes.specs.Cells.{last_key, key}
use Rattle.passes.proofs.row_key.Given as goal

abbrev pub invariant-loop-j : goal.invariant-loop-j
invariant-loop-j l = ((k : ℕ) → k < l.j → l.best ≤ key (at l.cells k) k) × ((l.best ≡ last_key) ⊎ ((k : ℕ) × ((k < length l.cells) × (l.best ≡ key (at l.cells k) k))))
