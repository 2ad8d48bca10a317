use Rattle.std.proofs.Common.{◌≡◌, ℕ, ◌+◌, ◌-◌, ◌<◌, ◌≤◌}
use Rattle.laws.specs.Lists.{at}
use Rattle.passes.proofs.raise_discounts.Given as goal

abbrev pub invariant-loop-j : goal.invariant-loop-j
invariant-loop-j l = ((k : ℕ) → k < l.j → at l.discounts k ≡ at l.initial.discounts k + (l.reach - at l.labels k)) × ((k : ℕ) → l.j ≤ k → at l.discounts k ≡ at l.initial.discounts k)
