-- What the engine's passes say of one cell and of whole lists. A label is how far a search has to go to reach a report.
use Rattle.std.specs.Prelude.{ℕ, ◌+◌, ◌-◌, ◌*◌, ◌/◌, ◌%◌, ◌≤◌, ◌<◌, ◌^◌, ◌≡◌, List, ◌⊎◌, length, Option, Some, None}
use Rattle.laws.specs.Lists.{at}
use Rattle.matching.specs.Pairing.{none, score_end, left_out}
use Rattle.passes.specs.declared.Cheapest.{Cheapest}

-- above every label, and above what an admissible pair adds to one
abbrev pub far : ℕ
far = 2 ^ 30

-- a key is a score or price and the number of a report or track in one: the one is below this, the other below the next
abbrev pub key_scores : ℕ
key_scores = 2 ^ 23

abbrev pub key_places : ℕ
key_places = 256

-- above every key that counts
abbrev pub last_key : ℕ
last_key = key_scores * key_places - 1

-- a cell: a score, or none
abbrev pub IsCell : ℕ → Type 0
IsCell c = (c < score_end) ⊎ (c ≡ none)

-- a label, reached via a track, becomes label' and via' by the offer of track i, which stands at the label from
pub record Step (cell discount from price i label via label' via' : ℕ) : Type 0 where
  pub less : label' ≤ label
  pub at_most : cell < far → price + label' ≤ from + cell + discount
  pub why : ((label' ≡ label) × (via' ≡ via)) ⊎ ((cell < far) × ((label' + price ≡ from + cell + discount) × ((label' < label) × (via' ≡ i))))

-- what relax asks of its lists
pub record Fair (cells discounts labels via : List ℕ) (from price : ℕ) : Type 0 where
  pub cells_long : length cells ≡ length labels
  pub discounts_long : length discounts ≡ length labels
  pub via_long : length via ≡ length labels
  pub cells_good : (k : ℕ) → k < length labels → IsCell (at cells k)
  pub from_in : from ≤ left_out
  pub price_in : price ≤ left_out
  pub discount_in : (k : ℕ) → k < length labels → at discounts k ≤ left_out
  pub labels_in : (k : ℕ) → k < length labels → at labels k ≤ left_out
  pub fair : (k : ℕ) → k < length labels → at cells k < far → price ≤ at cells k + at discounts k

-- and what it does
pub record Relaxed (cells discounts : List ℕ) (from price i : ℕ) (labels via labels' via' : List ℕ) : Type 0 where
  pub labels_long : length labels' ≡ length labels
  pub via_long : length via' ≡ length labels
  pub steps : (k : ℕ) → k < length labels → Step (at cells k) (at discounts k) from price i (at labels k) (at via k) (at labels' k) (at via' k)

-- labels, and a closing a report: 0 while it is open
pub record Labels (labels closings : List ℕ) : Type 0 where
  pub same : length closings ≡ length labels
  pub few : length labels ≤ key_places
  pub small : (k : ℕ) → k < length labels → at labels k + at closings k < 2 ^ 31

-- and the reports before front are closed
pub record FromLabels (front : ℕ) (labels closings : List ℕ) (cap : ℕ) : Type 0 where
  pub labelled : Labels labels closings
  pub capped : cap < 2 ^ 31
  pub upto : front ≤ length labels
  pub closed : (k : ℕ) → k < front → cap ≤ at labels k + at closings k

-- r is the least label of an open report, or cap
pub record Low (labels closings : List ℕ) (cap r : ℕ) : Type 0 where
  pub capped : r ≤ cap
  pub below : (k : ℕ) → k < length labels → r ≤ at labels k + at closings k
  pub met : (r ≡ cap) ⊎ ((k : ℕ) × ((k < length labels) × (at labels k + at closings k ≡ r)))

-- the first open report at this label, or the length
pub record Found (labels closings : List ℕ) (label r : ℕ) : Type 0 where
  pub upto : r ≤ length labels
  pub here : r < length labels → at labels r + at closings r ≡ label
  pub before : (k : ℕ) → k < r → at labels k + at closings k ≡ label → ⊥

-- a label below this fits one key with its report
abbrev pub near : ℕ
near = key_scores - 1

-- r is no more than any label, and below near it is one, with its report
pub record Near (labels closings : List ℕ) (r : ℕ) : Type 0 where
  pub below : (k : ℕ) → k < length labels → r / key_places ≤ at labels k + at closings k
  pub met : r / key_places < near → (r % key_places < length labels) × (at labels (r % key_places) + at closings (r % key_places) ≡ r / key_places)

-- a nearest open report below cap, or the length
pub record Nearest (labels closings : List ℕ) (cap j : ℕ) : Type 0 where
  pub upto : j ≤ length labels
  pub here : j < length labels → at labels j + at closings j < cap
  pub least : (k : ℕ) → k < length labels → j < length labels → at labels j + at closings j ≤ at labels k + at closings k
  pub nobody : (k : ℕ) → k < length labels → length labels ≤ j → cap ≤ at labels k + at closings k

-- ---- the least score of a row

-- a score and its report in one key: none comes after every score
unfoldable pub key : ℕ → ℕ → ℕ
key cell k = cell % key_scores * key_places + k

-- r is the least key
pub record Keyed (cells : List ℕ) (r : ℕ) : Type 0 where
  pub below : (k : ℕ) → k < length cells → r ≤ key (at cells k) k
  pub met : (r ≡ last_key) ⊎ ((k : ℕ) × ((k < length cells) × (r ≡ key (at cells k) k)))

-- the least score, and a report that has it; left_out if there is none
pub record RowLeast (cells : List ℕ) (score report : ℕ) : Type 0 where
  pub capped : score ≤ left_out
  pub below : (k : ℕ) → k < length cells → score ≤ at cells k
  pub met : score < left_out → (report < length cells) × (at cells report ≡ score)

-- the answer for a row: a score and its report, or none where no report is admissible
abbrev pub RowBest : List ℕ → Option Cheapest → Type 0
RowBest cells (Some best) = (best.score < score_end) × RowLeast cells best.score best.report
RowBest cells None = RowLeast cells left_out 0

-- ---- prices and discounts after a search that ends at the label reach

-- what a search leaves: labels, and the one at which it ends
pub record Searched (labels : List ℕ) (reach : ℕ) : Type 0 where
  pub reach_in : reach ≤ left_out
  pub labels_in : (j : ℕ) → j < length labels → at labels j ≤ left_out

-- what raise_prices asks: a report nearer than reach is its owner's
pub record Paid (pairing owner labels prices : List ℕ) (reach : ℕ) : Type 0 where
  pub searched : Searched labels reach
  pub owner_long : length owner ≡ length labels
  pub small : (i : ℕ) → i < length prices → at prices i + reach < 2 ^ 32
  pub mine : (i : ℕ) → i < length prices → at pairing i < length labels → at owner (at pairing i) ≡ i
  pub near : (j : ℕ) → j < length labels → at labels j < reach → (at owner j < length prices) × (at pairing (at owner j) ≡ j)

-- one track's price has risen
pub record RaisedOne (prices : List ℕ) (track rise : ℕ) (prices' : List ℕ) : Type 0 where
  pub prices_long : length prices' ≡ length prices
  pub others : (k : ℕ) → (k ≡ track → ⊥) → at prices' k ≡ at prices k
  pub here : at prices' track ≡ at prices track + rise

-- each track in a pair pays by how far its report lies below reach
pub record PricesUp (pairing labels : List ℕ) (reach : ℕ) (prices prices' : List ℕ) : Type 0 where
  pub prices_long : length prices' ≡ length prices
  pub up : (i : ℕ) → i < length prices → (at pairing i < length labels → at prices' i ≡ at prices i + (reach - at labels (at pairing i))) × (length labels ≤ at pairing i → at prices' i ≡ at prices i)

-- and the discount of each report rises so
pub record DiscountsUp (labels : List ℕ) (reach : ℕ) (discounts discounts' : List ℕ) : Type 0 where
  pub discounts_long : length discounts' ≡ length discounts
  pub up : (j : ℕ) → j < length discounts → at discounts' j ≡ at discounts j + (reach - at labels j)
