-- What the functions ask and give, of the structs that they are handed: each says of the lists in a struct what State says of lists.
use Rattle.std.specs.Prelude.{ℕ, List, ◌≡◌}
use Rattle.matching.specs.declared.Sheet.{Sheet}
use Rattle.paths.specs.declared.Pairs.{Pairs}
use Rattle.queue.specs.State as state

-- each track keeps its report
abbrev pub SamePairing : Pairs → Pairs → Type 0
SamePairing p q = (q.pairing.now ≡ p.pairing.now) × (q.owner.now ≡ p.owner.now)

-- of the pairs of the first t tracks
abbrev pub Slack : Sheet → (t : ℕ) → Pairs → List ℕ → Type 0
Slack s t p slack = state.Slack s.cells.now s.reports t p.pairing.now p.owner.now p.prices.now slack

-- of n tracks
abbrev pub Lifting : Sheet → (n : ℕ) → Pairs → List ℕ → Type 0
Lifting s n p slack = state.Lifting s.cells.now s.reports n p.pairing.now p.owner.now p.prices.now p.discounts.now slack
