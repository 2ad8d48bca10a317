use Rattle.std.proofs.Common.{◌≡◌, ℕ, ◌+◌, ◌<◌}
use Rattle.laws.specs.Lists.{at}
use Rattle.passes.proofs.first_at.Given as goal

abbrev pub invariant-loop-j : goal.invariant-loop-j
invariant-loop-j l = (k : ℕ) → k < l.j → at l.labels k + at l.closings k ≡ l.label → ⊥
