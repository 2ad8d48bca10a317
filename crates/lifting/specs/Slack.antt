-- A slack a report: how far the prices of all pairs may rise together until one meets the score of that report, if it is free.
use Rattle.std.specs.Prelude.{ℕ, ◌+◌, ◌-◌, ◌≤◌, ◌<◌, ◌≡◌, List, length}
use Rattle.laws.specs.Lists.{at}
use Rattle.matching.specs.Pairing.{none, left_out}
use Rattle.passes.specs.Cells.{IsCell, far, Searched}

-- a list of numbers that a price may have
abbrev pub Small : List ℕ → Type 0
Small a = (k : ℕ) → k < length a → at a k ≤ left_out

-- what a search leaves, and slacks
pub record Tightenable (labels : List ℕ) (reach : ℕ) (slack : List ℕ) : Type 0 where
  pub same : length labels ≡ length slack
  pub searched : Searched labels reach
  pub small : Small slack

-- a row of the sheet whose track has this price, and slacks
pub record Row (cells : List ℕ) (price : ℕ) (slack : List ℕ) : Type 0 where
  pub same : length cells ≡ length slack
  pub cells_good : (k : ℕ) → k < length slack → IsCell (at cells k)
  pub top : price ≤ left_out
  pub small : Small slack

-- and what the track leaves of them
pub record Bounded (cells : List ℕ) (price : ℕ) (slack slack' : List ℕ) : Type 0 where
  pub slack_long : length slack' ≡ length slack
  pub less : (k : ℕ) → k < length slack → at slack' k ≤ at slack k
  pub room : (k : ℕ) → k < length slack → at cells k < far → at slack' k ≤ at cells k - price

-- and what the search leaves of them
pub record Tightened (labels : List ℕ) (reach : ℕ) (slack slack' : List ℕ) : Type 0 where
  pub slack_long : length slack' ≡ length slack
  pub less : (k : ℕ) → k < length slack → at slack' k ≤ at slack k
  pub room : (k : ℕ) → k < length slack → at slack' k ≤ at labels k - reach

-- owners beside slacks
pub record Beside (owner slack : List ℕ) : Type 0 where
  pub same : length owner ≡ length slack
  pub small : Small slack

-- what a rise of all pairs leaves of the slacks
pub record Spent (rise : ℕ) (slack slack' : List ℕ) : Type 0 where
  pub slack_long : length slack' ≡ length slack
  pub left : (k : ℕ) → k < length slack → at slack' k ≡ at slack k - rise

-- a rises where the other list has a partner
pub record Raised (other : List ℕ) (rise : ℕ) (a a' : List ℕ) : Type 0 where
  pub same_long : length a' ≡ length a
  pub alone : (k : ℕ) → k < length a → at other k ≡ none → at a' k ≡ at a k
  pub paired : (k : ℕ) → k < length a → (at other k ≡ none → ⊥) → at a' k ≡ at a k + rise
