-- What the functions ask and give, of the structs that they are handed: each says of the lists in a struct what State says of lists.
use Rattle.std.specs.Prelude.{ℕ, ◌≡◌, length}
use Rattle.laws.specs.Lists.{at}
use Rattle.matching.specs.declared.Sheet.{Sheet}
use Rattle.paths.specs.declared.Pairs.{Pairs}
use Rattle.paths.specs.declared.Tree.{Tree}
use Rattle.paths.specs.declared.Progress.{Progress}
use Rattle.paths.specs.declared.End.{End}
use Rattle.paths.specs.State as state

-- the same four lists, whatever is written in them
abbrev pub SamePairs : Pairs → Pairs → Type 0
SamePairs p q = (q.pairing.ghost_name ≡ p.pairing.ghost_name) × ((q.owner.ghost_name ≡ p.owner.ghost_name) × ((q.prices.ghost_name ≡ p.prices.ghost_name) × (q.discounts.ghost_name ≡ p.discounts.ghost_name)))

-- the same three lists, whatever is written in them
abbrev pub SameTree : Tree → Tree → Type 0
SameTree t u = (u.labels.ghost_name ≡ t.labels.ghost_name) × ((u.via.ghost_name ≡ t.via.ghost_name) × (u.closings.ghost_name ≡ t.closings.ghost_name))

-- of n tracks
abbrev pub Shape : Sheet → (n : ℕ) → Pairs → Type 0
Shape s n p = state.Shape s.cells.now s.reports n p.pairing.now p.owner.now p.prices.now p.discounts.now

-- fair prices, and a pairing with no vacant report, of n tracks
abbrev pub Good : Sheet → (n : ℕ) → Pairs → Type 0
Good s n p = state.Good s.cells.now s.reports n p.pairing.now p.owner.now p.prices.now p.discounts.now

-- the lists of a search, an entry a report
abbrev pub SearchLists : Sheet → Tree → Type 0
SearchLists s t = state.SearchLists s.reports t.labels.now t.via.now t.closings.now

-- what an insertion of many asks: fair prices and a pairing, and the lists of a search
abbrev pub Ready : Sheet → Pairs → Tree → Type 0
Ready s p t = Good s (length p.prices.now) p × SearchLists s t

-- and what it gives: the same, in the same lists
abbrev pub ReadyAgain : Sheet → Pairs → Tree → Pairs → Tree → Type 0
ReadyAgain s p t q u = (SamePairs p q × SameTree t u) × (Good s (length p.prices.now) q × SearchLists s u)

-- what offer_from asks, and below what each function of `paths` asks and gives
abbrev pub Offerable : Sheet → (front track label : ℕ) → Pairs → Tree → Type 0
Offerable s front track label p t = state.Offerable s.cells.now s.reports front track label p.prices.now p.discounts.now t.labels.now t.via.now

-- no report is opened or closed by it
abbrev pub Offered : Sheet → (track label : ℕ) → Pairs → Tree → Tree → Type 0
Offered s track label p t u = state.Offered s.cells.now s.reports p.discounts.now label (at p.prices.now track) track t.labels.now t.via.now u.labels.now u.via.now × (u.closings.now ≡ t.closings.now)

abbrev pub Searchable : Sheet → (track : ℕ) → Pairs → Tree → Type 0
Searchable s track p t = state.Searchable s.cells.now s.reports track p.pairing.now p.owner.now p.prices.now p.discounts.now t.labels.now t.via.now t.closings.now

abbrev pub Standing : Sheet → (track : ℕ) → Pairs → Progress → Tree → Type 0
Standing s track p g t = state.Standing s.cells.now s.reports (length p.prices.now) p.pairing.now p.owner.now p.prices.now p.discounts.now track g.leaving g.leaver g.closed g.front g.next t.labels.now t.via.now t.closings.now

abbrev pub Endable : Progress → Tree → Type 0
Endable g t = state.Endable (length t.labels.now) g.closed t.labels.now t.closings.now

abbrev pub EndsAt : Progress → Tree → Tree → (reach : ℕ) → End → Type 0
EndsAt g t u reach end = state.EndsAt (length t.labels.now) g.leaving g.leaver g.closed g.next t.labels.now t.closings.now u.closings.now reach end
    × ((u.labels.now ≡ t.labels.now) × (u.via.now ≡ t.via.now))

abbrev pub Ended : Sheet → (track : ℕ) → Pairs → (reach : ℕ) → End → Tree → Type 0
Ended s track p reach end t = state.Ended s.cells.now s.reports (length p.prices.now) p.pairing.now p.owner.now p.prices.now p.discounts.now track reach end t.labels.now t.via.now t.closings.now

-- report vacant is to be handed on
abbrev pub Flips : Sheet → (track : ℕ) → Tree → (vacant : ℕ) → Pairs → Type 0
Flips s track t vacant p = state.Flips s.cells.now s.reports (length p.prices.now) p.prices.now p.discounts.now track t.via.now t.closings.now p.pairing.now p.owner.now p.pairing.now p.owner.now vacant

-- prices and discounts stay
abbrev pub SameNumbers : Pairs → Pairs → Type 0
SameNumbers p q = (q.prices.now ≡ p.prices.now) × (q.discounts.now ≡ p.discounts.now)

abbrev pub Flipped : Sheet → (track : ℕ) → Pairs → Pairs → Type 0
Flipped s track p q = state.Flipped s.cells.now s.reports (length p.prices.now) p.prices.now p.discounts.now track p.pairing.now p.owner.now q.pairing.now q.owner.now × SameNumbers p q

abbrev pub Finishable : Sheet → (track : ℕ) → Tree → End → Pairs → Type 0
Finishable s track t end p = state.Finishable s.cells.now s.reports (length p.prices.now) p.prices.now p.discounts.now track t.via.now t.closings.now end p.pairing.now p.owner.now

abbrev pub Finished : Sheet → (track : ℕ) → Pairs → Pairs → Type 0
Finished s track p q = state.Finished s.cells.now s.reports (length p.prices.now) p.prices.now p.discounts.now track p.pairing.now p.owner.now q.pairing.now q.owner.now × SameNumbers p q

abbrev pub Inserted : Sheet → (track : ℕ) → Pairs → Pairs → Type 0
Inserted s track p q = state.Inserted s.cells.now s.reports (length p.prices.now) track p.pairing.now p.prices.now q.pairing.now q.owner.now q.prices.now q.discounts.now

abbrev pub Reached : Sheet → Pairs → Tree → (reach : ℕ) → Pairs → Type 0
Reached s p t reach q = state.Reached s.cells.now s.reports (length p.prices.now) p.pairing.now p.owner.now p.prices.now t.labels.now reach q.pairing.now q.owner.now q.prices.now
