-- What the functions ask and give, of the structs that they are handed: each says of the lists in a struct what State says of lists.
use Rattle.std.specs.Prelude.{ℕ, List, ◌≡◌, ◌<◌, length}
use Rattle.laws.specs.Lists.{at}
use Rattle.matching.specs.Pairing.{none}
use Rattle.matching.specs.declared.Sheet.{Sheet}
use Rattle.paths.specs.declared.Pairs.{Pairs}
use Rattle.paths.specs.declared.Tree.{Tree}
use Rattle.paths.specs.Held.{Good}
use Rattle.engine.specs.State as state

-- of n tracks none is paired, and no report has a discount
abbrev pub Blank : Sheet → (n : ℕ) → Pairs → Type 0
Blank s n p = Good s n p × (((i : ℕ) → i < n → at p.pairing.now i ≡ none) × ((j : ℕ) → j < s.reports → at p.discounts.now j ≡ 0))

abbrev pub Fresh : Sheet → (track : ℕ) → Pairs → Type 0
Fresh s track p = state.Fresh s.cells.now s.reports track p.pairing.now p.owner.now p.prices.now p.discounts.now

abbrev pub Contest : Sheet → (track report : ℕ) → Pairs → Type 0
Contest s track report p = state.Contest s.cells.now s.reports track report p.pairing.now p.owner.now p.prices.now p.discounts.now

abbrev pub Claimed : Sheet → (track : ℕ) → Pairs → Pairs → Type 0
Claimed s track p q = state.Claimed s.cells.now s.reports (length p.prices.now) track p.pairing.now q.pairing.now q.owner.now q.prices.now q.discounts.now

abbrev pub WorkRoom : Sheet → Pairs → Tree → List ℕ → Type 0
WorkRoom s p t slack = state.WorkRoom s.cells.now s.reports (length p.prices.now) p.pairing.now p.owner.now p.prices.now p.discounts.now t.labels.now t.via.now t.closings.now slack

abbrev pub Visit : Sheet → (track : ℕ) → Pairs → Tree → Type 0
Visit s track p t = state.Visit s.cells.now s.reports track p.pairing.now p.owner.now p.prices.now p.discounts.now t.labels.now t.via.now t.closings.now

-- of n tracks
abbrev pub Solved : Sheet → (n : ℕ) → Pairs → Type 0
Solved s n p = state.Solved s.cells.now s.reports n p.pairing.now p.owner.now p.prices.now p.discounts.now
