use Rattle.std.proofs.Common.{◌≡◌, ℕ, ◌-◌, ◌<◌, ◌≤◌}
use Rattle.laws.specs.Lists.{at}
use Rattle.passes.specs.Cells.{far}
use Rattle.lifting.proofs.bound_slack.Given as goal

abbrev pub invariant-loop-j : goal.invariant-loop-j
invariant-loop-j l = ((k : ℕ) → k < l.j → (at l.slack k ≤ at l.initial.slack k) × (at l.cells k < far → at l.slack k ≤ at l.cells k - l.price)) × ((k : ℕ) → l.j ≤ k → at l.slack k ≡ at l.initial.slack k)
