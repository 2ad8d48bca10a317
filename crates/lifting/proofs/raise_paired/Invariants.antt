use Rattle.std.proofs.Common.{◌≡◌, ℕ, ◌+◌, ◌<◌, ◌≤◌}
use Rattle.laws.specs.Lists.{at}
use Rattle.matching.specs.Pairing.{none}
use Rattle.lifting.proofs.raise_paired.Given as goal

abbrev pub invariant-loop-j : goal.invariant-loop-j
invariant-loop-j l = ((k : ℕ) → k < l.j → (at l.other k ≡ none → at l.a k ≡ at l.initial.a k) × ((at l.other k ≡ none → ⊥) → at l.a k ≡ at l.initial.a k + l.rise)) × ((k : ℕ) → l.j ≤ k → at l.a k ≡ at l.initial.a k)
