-- 01, 'Pairing': the check's answers. Each test is a Bool, and the answer is the number of the first test that fails, or 0; the code's
-- answer is that fault, or Ok. Entries beyond tracks, reports and tracks x reports are neither read nor judged.
use Rattle.std.specs.Prelude.{ℕ, ◌+◌, ◌*◌, ◌≤◌, Bool, cond, not, ◌&&◌, ◌||◌, List, [], ◌∷◌, leb, ltb, eqb, length, Result, Ok, Err}
use Rattle.laws.specs.Sums.{sum}
use Rattle.laws.specs.Tests.{each, holds, refuse}
use Rattle.laws.specs.Lists.{at}
use Rattle.matching.specs.declared.Fault.{Fault}
use Rattle.matching.specs.declared.Fault.TheVariants as fault
use Rattle.matching.specs.Pairing.{none, score_end, left_out, most_tracks, most_reports, Sheet, total, sheet_of}

-- 21: few enough tracks n and reports m, and long enough lists, by their lengths
unfoldable pub sizes_ok : (n m cells pairing prices discounts : ℕ) → Bool
sizes_ok n m cells pairing prices discounts =
    holds (leb n most_tracks ∷ leb m most_reports ∷ leb (n * m) cells ∷ leb n pairing ∷ leb n prices ∷ leb m discounts ∷ [])

-- the same as facts
pub record Sizes (n m cells pairing prices discounts : ℕ) : Type 0 where
  pub tracks_few : n ≤ most_tracks
  pub reports_few : m ≤ most_reports
  pub cells_long : n * m ≤ cells
  pub pairing_long : n ≤ pairing
  pub prices_long : n ≤ prices
  pub discounts_long : m ≤ discounts

abbrev pub Fits : (n m : ℕ) (cells pairing prices discounts : List ℕ) → Type 0
Fits n m cells pairing prices discounts = Sizes n m (length cells) (length pairing) (length prices) (length discounts)

-- 22: each of the first k cells is none or a score
abbrev pub cell_ok : ℕ → Bool
cell_ok c = eqb c none || ltb c score_end

unfoldable pub cells_ok : ℕ → List ℕ → Bool
cells_ok k cells = each k (λ i. cell_ok (at cells i))

-- 23: track i is left out, or its report is there, the pair is admissible, and no track before i has the report
abbrev pub entry_ok : Sheet → (ℕ → ℕ) → ℕ → Bool
entry_ok S P i = eqb (P i) none || ltb (P i) S.reports && not (eqb (S.cell i (P i)) none) && each i (λ k. not (eqb (P k) (P i)))

unfoldable pub pairing_ok : Sheet → (ℕ → ℕ) → Bool
pairing_ok S P = each S.tracks (entry_ok S P)

-- 24: each of the first n prices, or discounts, is in range
unfoldable pub numbers_ok : ℕ → (ℕ → ℕ) → Bool
numbers_ok n f = each n (λ i. leb (f i) left_out)

-- 25: the price less the discount is not above the score of an admissible pair, said with the discount on the other side
abbrev pub pair_ok : (price score discount : ℕ) → Bool
pair_ok price score discount = eqb score none || leb price (score + discount)

abbrev pub row_ok : Sheet → (prices discounts : ℕ → ℕ) → ℕ → Bool
row_ok S prices discounts i = each S.reports (λ j. pair_ok (prices i) (S.cell i j) (discounts j))

unfoldable pub scores_ok : Sheet → (prices discounts : ℕ → ℕ) → Bool
scores_ok S prices discounts = each S.tracks (row_ok S prices discounts)

-- 26: all prices less all discounts equal the pairing's total
unfoldable pub totals_ok : Sheet → (P prices discounts : ℕ → ℕ) → Bool
totals_ok S P prices discounts = eqb (sum S.tracks prices) (total S P + sum S.reports discounts)

-- 21, then 22, then the rest. The pairing call refuses so too: with rest 0, and the lengths of its result lists
unfoldable pub sheet_refusal : (n m : ℕ) (cells : List ℕ) (pairing prices discounts rest : ℕ) → ℕ
sheet_refusal n m cells pairing prices discounts rest =
    refuse 21 (sizes_ok n m (length cells) pairing prices discounts) (refuse 22 (cells_ok (n * m) cells) rest)

-- the whole, for n tracks and m reports
unfoldable pub check_answer : (n m : ℕ) (cells pairing prices discounts : List ℕ) → ℕ
check_answer n m cells pairing prices discounts =
    let S : Sheet = sheet_of n m cells in
    let P : ℕ → ℕ = at pairing in
    let u : ℕ → ℕ = at prices in
    let v : ℕ → ℕ = at discounts in
    sheet_refusal n m cells (length pairing) (length prices) (length discounts)
    (refuse 23 (pairing_ok S P)
    (refuse 24 (numbers_ok n u && numbers_ok m v)
    (refuse 25 (scores_ok S u v)
    (refuse 26 (totals_ok S P u v)
    0))))

-- ---- the code's answers, by their numbers

abbrev pub fault_number : Fault → ℕ
fault_number fault.Sizes = 21
fault_number fault.Cells = 22
fault_number fault.Pairing = 23
fault_number fault.Numbers = 24
fault_number fault.Scores = 25
fault_number fault.Totals = 26

abbrev pub check_number : Result (Unit {0}) Fault → ℕ
check_number (Ok done) = 0
check_number (Err f) = fault_number f

-- the answer that stands for a number
abbrev pub fault_by : ℕ → Fault
fault_by k =
    cond (eqb k 21) fault.Sizes
    (cond (eqb k 22) fault.Cells
    (cond (eqb k 23) fault.Pairing
    (cond (eqb k 24) fault.Numbers
    (cond (eqb k 25) fault.Scores
    fault.Totals))))

abbrev pub answer_by : ℕ → Result (Unit {0}) Fault
answer_by k = cond (eqb k 0) (Ok tt) (Err (fault_by k))
