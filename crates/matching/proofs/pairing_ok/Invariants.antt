use mathlib.Core.Path.{◌≡◌}
use mathlib.Core.Bool.{true}
use Rattle.laws.specs.Tests.{each}
use Rattle.laws.specs.Lists.{at}
use lib.ListN.{length}
use Rattle.matching.specs.Pairing.{sheet_of}
use Rattle.matching.specs.Answer.{entry_ok}
use Rattle.matching.proofs.pairing_ok.Given as goal

abbrev pub invariant-loop-track : goal.invariant-loop-track
invariant-loop-track l = each l.track (entry_ok (sheet_of (length l.pairing) l.sheet.reports l.sheet.cells.now) (at l.pairing)) ≡ true
