use Rattle.glider.specs.Nearest.{nearest_for, taken_after}
use lib.ListN.{length}
use mathlib.Core.Bool.{Bool}
use mathlib.Core.Path.{◌≡◌}
use Prim.Native.Nat.{ℕ, ◌≤◌}
use mathlib.Core.List.{List}
use Rattle.laws.proofs.Fold.{Answered}
use Rattle.laws.specs.Lists.{numbers}
use Rattle.glider.proofs.nearest_first.Given as goal

pub record Inv (m : ℕ) (cells : List ℕ) (taken₀ taken : List Bool) (pairing₀ pairing : List ℕ) (track : ℕ) : Type 0 where
  pub upto : track ≤ length pairing₀
  pub marks : length taken ≡ length taken₀
  pub so : Answered (taken_after m cells) (nearest_for m cells) (numbers (length pairing₀)) taken₀ taken pairing pairing₀ track

abbrev pub invariant-loop-track : goal.invariant-loop-track
invariant-loop-track l = Inv l.reports l.sheet l.initial.taken l.taken l.initial.pairing l.pairing l.track
