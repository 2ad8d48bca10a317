-- 01, 'Pairing': score sheets, the pairing of tracks with reports, which pairing is best, and the prices and discounts that show it.
use Rattle.std.specs.Prelude.{ℕ, ◌+◌, ◌*◌, ◌≤◌, ◌<◌, ◌≡◌, cond, List, eqb, length}
use Rattle.laws.specs.Lists.{at}
use Rattle.laws.specs.Sums.{sum}

-- ---- 01's numbers

-- in a cell: the pair is not admissible; in a pairing: the track is left out
abbrev pub none : ℕ
none = 4294967295

-- a score is below this
abbrev pub score_end : ℕ
score_end = 2097152

-- what a track that is left out counts in a total; no price and no discount is above it
abbrev pub left_out : ℕ
left_out = 268435456

abbrev pub most_tracks : ℕ
most_tracks = 100

abbrev pub most_reports : ℕ
most_reports = 100

-- ---- a sheet of scores

pub record Sheet : Type 0 where
  pub tracks : ℕ
  pub reports : ℕ
  pub cell : ℕ → ℕ → ℕ

-- track i may be paired with report j
abbrev pub Admissible : Sheet → ℕ → ℕ → Type 0
Admissible S i j = S.cell i j ≡ none → ⊥

-- not too many tracks, and each admissible pair has a score. The number of reports does not matter here
pub record InRange (S : Sheet) : Type 0 where
  pub tracks_few : S.tracks ≤ most_tracks
  pub scores : (i j : ℕ) → i < S.tracks → j < S.reports → Admissible S i j → S.cell i j < score_end

-- ---- a pairing P: the number of the report that track i has, or none

abbrev pub HasReport : (ℕ → ℕ) → ℕ → Type 0
HasReport P i = P i ≡ none → ⊥

-- each report that P names is there, its pair is admissible, and no report is named twice
pub record ValidPairing (S : Sheet) (P : ℕ → ℕ) : Type 0 where
  pub there : (i : ℕ) → i < S.tracks → HasReport P i → P i < S.reports
  pub admissible : (i : ℕ) → i < S.tracks → HasReport P i → Admissible S i (P i)
  pub once : (i k : ℕ) → i < S.tracks → k < S.tracks → HasReport P i → P i ≡ P k → i ≡ k

-- how many tracks have a report
unfoldable pub pairs : Sheet → (ℕ → ℕ) → ℕ
pairs S P = sum S.tracks (λ i. cond (eqb (P i) none) 0 1)

-- how many are left out
unfoldable pub missed_tracks : Sheet → (ℕ → ℕ) → ℕ
missed_tracks S P = sum S.tracks (λ i. cond (eqb (P i) none) 1 0)

-- the score of track i's pair, or c where it is left out
abbrev pub score_or : ℕ → Sheet → (ℕ → ℕ) → ℕ → ℕ
score_or c S P i = cond (eqb (P i) none) c (S.cell i (P i))

-- the sum of the scores of the pairs
unfoldable pub sum_of_scores : Sheet → (ℕ → ℕ) → ℕ
sum_of_scores S P = sum S.tracks (score_or 0 S P)

-- the same, and left_out for each track left out
unfoldable pub total : Sheet → (ℕ → ℕ) → ℕ
total S P = sum S.tracks (score_or left_out S P)

-- most pairs, then least sum of scores: no valid pairing has more pairs, or as many at a lower sum
pub record Best (S : Sheet) (P : ℕ → ℕ) : Type 0 where
  pub valid : ValidPairing S P
  pub most : (Q : ℕ → ℕ) → ValidPairing S Q → pairs S P < pairs S Q → ⊥
  pub least : (Q : ℕ → ℕ) → ValidPairing S Q → pairs S Q ≡ pairs S P → sum_of_scores S Q < sum_of_scores S P → ⊥

-- as many pairs and the same sum of scores, as all best pairings of a sheet have
pub record Agree (S : Sheet) (P Q : ℕ → ℕ) : Type 0 where
  pub same_pairs : pairs S P ≡ pairs S Q
  pub same_scores : sum_of_scores S P ≡ sum_of_scores S Q

-- ---- what shows that a pairing is best

-- a price a track and a discount a report, each in range; the price less the discount never exceeds the score of an admissible pair
-- (said with the discount on the other side, as is the sum below: no number here is negative)
pub record FairPrices (S : Sheet) (prices discounts : ℕ → ℕ) : Type 0 where
  pub price : (i : ℕ) → i < S.tracks → prices i ≤ left_out
  pub discount : (j : ℕ) → j < S.reports → discounts j ≤ left_out
  pub under : (i j : ℕ) → i < S.tracks → j < S.reports → Admissible S i j → prices i ≤ S.cell i j + discounts j

-- and all prices less all discounts equal the pairing's total
pub record Certificate (S : Sheet) (P prices discounts : ℕ → ℕ) : Type 0 where
  pub range : InRange S
  pub valid : ValidPairing S P
  pub fair : FairPrices S prices discounts
  pub totals : sum S.tracks prices ≡ total S P + sum S.reports discounts

-- ---- the same of lists, as a caller lends them

-- f and g are the same below n
abbrev pub Alike : ℕ → (ℕ → ℕ) → (ℕ → ℕ) → Type 0
Alike n f g = (i : ℕ) → i < n → f i ≡ g i

-- the cells go row by row, a row a track
abbrev pub sheet_of : (tracks reports : ℕ) → List ℕ → Sheet
sheet_of n m cells = record { tracks = n; reports = m; cell = λ i j. at cells (i * m + j) }

-- Best, with lists of report numbers for pairings
pub record BestList (S : Sheet) (p : List ℕ) : Type 0 where
  pub long : S.tracks ≤ length p
  pub valid : ValidPairing S (at p)
  pub most : (q : List ℕ) → S.tracks ≤ length q → ValidPairing S (at q) → pairs S (at p) < pairs S (at q) → ⊥
  pub least : (q : List ℕ) → S.tracks ≤ length q → ValidPairing S (at q) → pairs S (at q) ≡ pairs S (at p) → sum_of_scores S (at q) < sum_of_scores S (at p) → ⊥
