use Rattle.std.proofs.Common.{◌≡◌, ℕ, ◌+◌, ◌-◌, ◌<◌, ◌≤◌, length}
use Rattle.laws.specs.Lists.{at}
use Rattle.passes.proofs.raise_prices.Given as goal

abbrev pub invariant-loop-j : goal.invariant-loop-j
invariant-loop-j l = (length l.prices ≡ length l.initial.prices)
    × ((i : ℕ) → i < length l.initial.prices → (at l.pairing i < l.j → at l.prices i ≡ at l.initial.prices i + (l.reach - at l.labels (at l.pairing i))) × (l.j ≤ at l.pairing i → at l.prices i ≡ at l.initial.prices i))
