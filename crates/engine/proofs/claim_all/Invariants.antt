use Prim.Native.Nat.{ℕ, ◌≤◌, ◌<◌}
use mathlib.Core.Path.{◌≡◌}
use lib.ListN.{length}
use Rattle.laws.specs.Lists.{at}
use Rattle.matching.specs.Pairing.{none}
use Rattle.paths.specs.Held.{SamePairs, Good}
use Rattle.engine.proofs.claim_all.Given as goal

abbrev pub invariant-loop-track : goal.invariant-loop-track
invariant-loop-track l = (SamePairs l.initial.pairs l.pairs × (l.pairs.discounts.now ≡ l.initial.pairs.discounts.now))
    × (Good l.sheet (length l.initial.pairs.prices.now) l.pairs × ((i : ℕ) → l.track ≤ i → i < length l.initial.pairs.prices.now → at l.pairs.pairing.now i ≡ none))
