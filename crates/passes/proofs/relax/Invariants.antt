use Rattle.std.proofs.Common.{◌≡◌, ℕ, ◌<◌, ◌≤◌}
use Rattle.laws.specs.Lists.{at}
use Rattle.passes.specs.Cells.{Step}
use Rattle.passes.proofs.relax.Given as goal

abbrev pub invariant-loop-j : goal.invariant-loop-j
invariant-loop-j l = ((k : ℕ) → k < l.j → Step (at l.cells k) (at l.discounts k) l.label l.price l.track (at l.initial.labels k) (at l.initial.via k) (at l.labels k) (at l.via k))
    × ((k : ℕ) → l.j ≤ k → (at l.labels k ≡ at l.initial.labels k) × (at l.via k ≡ at l.initial.via k))
