-- What the sum of pair scores counts on.
use Rattle.std.specs.Prelude.{ℕ, ◌*◌, ◌≤◌, List, length}
use Rattle.laws.specs.Lists.{at}
use Rattle.matching.specs.Pairing.{most_reports, sheet_of, ValidPairing, InRange}

pub record Summable (reports : ℕ) (sheet pairing : List ℕ) : Type 0 where
  pub few : reports ≤ most_reports
  pub cells : length pairing * reports ≤ length sheet
  pub range : InRange (sheet_of (length pairing) reports sheet)
  pub valid : ValidPairing (sheet_of (length pairing) reports sheet) (at pairing)
