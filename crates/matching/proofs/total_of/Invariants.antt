use Prim.Native.Nat.{◌*◌, ◌≤◌, ◌^◌}
use mathlib.Core.Path.{◌≡◌}
use Rattle.laws.specs.Sums.{sum}
use Rattle.laws.specs.Lists.{at}
use lib.ListN.{length}
use Rattle.matching.specs.Pairing.{left_out, score_or, sheet_of}
use Rattle.matching.proofs.total_of.Given as goal

abbrev pub invariant-loop-track : goal.invariant-loop-track
invariant-loop-track l = (l.sum ≡ sum l.track (score_or left_out (sheet_of (length l.pairing) l.sheet.reports l.sheet.cells.now) (at l.pairing))) × (l.sum ≤ l.track * 2 ^ 32)
