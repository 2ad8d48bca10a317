use Rattle.std.proofs.Common.{◌≡◌, ℕ, ◌-◌, ◌<◌, ◌≤◌}
use Rattle.laws.specs.Lists.{at}
use Rattle.lifting.proofs.spend.Given as goal

abbrev pub invariant-loop-room : goal.invariant-loop-room
invariant-loop-room l = ((k : ℕ) → k < l.room-index → at l.slack k ≡ at l.initial.slack k - l.rise) × ((k : ℕ) → l.room-index ≤ k → at l.slack k ≡ at l.initial.slack k)
