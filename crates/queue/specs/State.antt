-- Slacks that hold for the pairs of the first t tracks.
use Rattle.std.specs.Prelude.{ℕ, ◌+◌, ◌≤◌, ◌<◌, ◌≡◌, List, length}
use Rattle.laws.specs.Lists.{at}
use Rattle.matching.specs.Pairing.{none}
use Rattle.passes.specs.Cells.{far}
use Rattle.lifting.specs.Slack.{Small}
use Rattle.paths.specs.State.{cell, Good}

-- a price of a pair may rise by a free report's slack, and is then no higher than its score
pub record Slack (cells : List ℕ) (m t : ℕ) (pairing owner prices slack : List ℕ) : Type 0 where
  pub slack_long : length slack ≡ m
  pub small : Small slack
  pub room : (i j : ℕ) → i < t → j < m → at pairing i < m → at owner j ≡ none → cell cells m i j < far → at prices i + at slack j ≤ cell cells m i j

-- fair prices, a pairing, and slacks that hold for all its pairs
pub record Lifting (cells : List ℕ) (m n : ℕ) (pairing owner prices discounts slack : List ℕ) : Type 0 where
  pub good : Good cells m n pairing owner prices discounts
  pub slacks : Slack cells m n pairing owner prices slack
