use Rattle.std.proofs.Common.{◌≡◌, ℕ, ◌-◌, ◌<◌, ◌≤◌}
use Rattle.laws.specs.Lists.{at}
use Rattle.lifting.proofs.tighten.Given as goal

abbrev pub invariant-loop-j : goal.invariant-loop-j
invariant-loop-j l = ((k : ℕ) → k < l.j → (at l.slack k ≤ at l.initial.slack k) × (at l.slack k ≤ at l.labels k - l.reach)) × ((k : ℕ) → l.j ≤ k → at l.slack k ≡ at l.initial.slack k)
