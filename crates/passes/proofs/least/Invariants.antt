use Rattle.std.proofs.Common.{◌≡◌, ℕ, ◌+◌, ◌<◌, ◌≤◌, length, ◌⊎◌}
use Rattle.laws.specs.Lists.{at}
use Rattle.passes.proofs.least.Given as goal

abbrev pub invariant-loop-j : goal.invariant-loop-j
invariant-loop-j l = (l.best ≤ l.cap) × (((k : ℕ) → k < l.j → l.best ≤ at l.labels k + at l.closings k) × ((l.best ≡ l.cap) ⊎ ((k : ℕ) × ((k < length l.labels) × (at l.labels k + at l.closings k ≡ l.best)))))
