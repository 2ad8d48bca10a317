use Prim.Native.Nat.{◌*◌, ◌≤◌}
use mathlib.Core.Path.{◌≡◌}
use lib.ListN.{length}
use Rattle.laws.specs.Sums.{sum}
use Rattle.laws.specs.Lists.{at}
use Rattle.matching.specs.Pairing.{score_end, sheet_of, score_or}
use Rattle.sector.proofs.score_sum.Given as goal

abbrev pub invariant-loop-track : goal.invariant-loop-track
invariant-loop-track l = (l.sum ≤ l.track * score_end) × (l.sum ≡ sum l.track (score_or 0 (sheet_of (length l.pairing) l.reports l.sheet) (at l.pairing)))
