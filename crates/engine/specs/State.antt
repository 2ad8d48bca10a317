-- The engine's stages: what the start, a visit and the whole ask and give.
use Rattle.std.specs.Prelude.{ℕ, ◌+◌, ◌*◌, ◌≤◌, ◌<◌, ◌≡◌, List, length}
use Rattle.laws.specs.Lists.{at}
use Rattle.matching.specs.Pairing.{none, most_tracks, Certificate, sheet_of}
use Rattle.passes.specs.Cells.{far, IsCell}
use Rattle.paths.specs.State.{widest, cell, Shape, Good, SearchLists, PairedOrOut}

-- a track that is in no pair, at the start
pub record Fresh (cells : List ℕ) (m track : ℕ) (pairing owner prices discounts : List ℕ) : Type 0 where
  pub good : Good cells m (length prices) pairing owner prices discounts
  pub track_in : track < length prices
  pub unpaired : at pairing track ≡ none
  pub zero : (j : ℕ) → j < m → at discounts j ≡ 0

-- a track that is in no pair, and a report of its price
pub record Contest (cells : List ℕ) (m track report : ℕ) (pairing owner prices discounts : List ℕ) : Type 0 where
  pub good : Good cells m (length prices) pairing owner prices discounts
  pub track_in : track < length prices
  pub unpaired : at pairing track ≡ none
  pub report_in : report < m
  pub admissible : cell cells m track report < far
  pub tight : at prices track ≡ cell cells m track report + at discounts report

-- a track has its price, and a report where it got one; the others that had none have none
pub record Claimed (cells : List ℕ) (m n track : ℕ) (pairing pairing' owner' prices' discounts : List ℕ) : Type 0 where
  pub good : Good cells m n pairing' owner' prices' discounts
  pub others : (i : ℕ) → (i ≡ track → ⊥) → at pairing i ≡ none → at pairing' i ≡ none

-- the lists of the call, and the working lists
pub record WorkRoom (cells : List ℕ) (m n : ℕ) (pairing owner prices discounts labels via closings slack : List ℕ) : Type 0 where
  pub shape : Shape cells m n pairing owner prices discounts
  pub rooms : SearchLists m labels via closings
  pub slack_long : length slack ≡ m

-- any track, and the working lists
pub record Visit (cells : List ℕ) (m track : ℕ) (pairing owner prices discounts labels via closings : List ℕ) : Type 0 where
  pub good : Good cells m (length prices) pairing owner prices discounts
  pub track_in : track < length prices
  pub rooms : SearchLists m labels via closings

-- the whole answer: fair prices, tight pairs, free reports at 0, and each track paired or at the full price
pub record Solved (cells : List ℕ) (m n : ℕ) (pairing owner prices discounts : List ℕ) : Type 0 where
  pub good : Good cells m n pairing owner prices discounts
  pub done : (i : ℕ) → i < n → PairedOrOut m pairing prices i

-- what the engine asks of a caller: few enough tracks and reports, lists of their lengths, and each cell a score or none
pub record Tested (cells : List ℕ) (m : ℕ) (pairing prices discounts : List ℕ) : Type 0 where
  pub cells_long : length cells ≡ length prices * m
  pub pairing_long : length pairing ≡ length prices
  pub discounts_long : length discounts ≡ m
  pub tracks_few : length prices ≤ most_tracks
  pub reports_few : m ≤ widest
  pub cells_good : (k : ℕ) → k < length cells → IsCell (at cells k)

-- and what it gives: a certificate, in lists of the same lengths
pub record Certified (cells : List ℕ) (m n : ℕ) (pairing prices discounts : List ℕ) : Type 0 where
  pub pairing_long : length pairing ≡ n
  pub prices_long : length prices ≡ n
  pub discounts_long : length discounts ≡ m
  pub shown : Certificate (sheet_of n m cells) (at pairing) (at prices) (at discounts)
