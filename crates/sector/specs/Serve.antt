-- What a sector call answers, and what it leaves in all that was lent (01, 'After pairing' and 'Numbers a sector call gives back').
use Rattle.std.specs.Prelude.{ℕ, ◌≡◌, Bool, List, [], ◌∷◌, ◌++◌, leb, length, drop, Result}
use Rattle.laws.specs.Lists.{at}
use Rattle.laws.specs.Tests.{holds}
use Rattle.numbers.specs.Sectors.{next_sector}
use Rattle.records.specs.declared.Site.{Site}
use Rattle.matching.specs.Pairing.{sum_of_scores}
use Rattle.matching.specs.Answer.{check_answer}
use Rattle.intake.specs.declared.Refusal.{Refusal}
use Rattle.intake.specs.Refusals.{Input, input, due_slots, refusal_of, answer_by}
use Rattle.scoresheet.specs.Cells.{cells_of, tracks_of, reports_of, sector_sheet}
use Rattle.walk.specs.Table.{settled_table, slot_prices, coasted_count, dropped_count}
use Rattle.fates.specs.Fates.{paired, started, weak, full, Handed, handed, started_table, fates_of, slots_of, shown_of, count_of}
use Rattle.sector.specs.declared.Counts.{Counts}

-- what is lent to be written: the table and the sector, and the answer's lists, four a report and one a slot
pub record Lent : Type 0 where
  pub table : List (List ℕ)
  pub sector : ℕ
  pub fates : List ℕ
  pub slots : List ℕ
  pub shown : List ℕ
  pub discounts : List ℕ
  pub prices : List ℕ

abbrev pub lent : List (List ℕ) → ℕ → (fates slots shown discounts prices : List ℕ) → Lent
lent table sector fates slots shown discounts prices =
    record { table = table; sector = sector; fates = fates; slots = slots; shown = shown; discounts = discounts; prices = prices }

-- what the call reads
abbrev pub input_of : Lent → Site → List (List ℕ) → Input
input_of l site batch = input l.table l.sector site batch

-- room for a fate, slot, shown mark and discount per report and a price per slot
unfoldable pub rooms : (reports table : ℕ) (fates slots shown discounts prices : ℕ) → List Bool
rooms reports table fates slots shown discounts prices =
    leb reports fates ∷ leb reports slots ∷ leb reports shown ∷ leb reports discounts ∷ leb table prices ∷ []

unfoldable pub room_for : Input → Lent → Bool
room_for i l =
    holds
    (rooms (reports_of i) (length i.table) (length l.fates) (length l.slots) (length l.shown) (length l.discounts) (length l.prices))

-- the number that the call gives back, or 0
unfoldable pub sector_refusal : Input → Lent → ℕ
sector_refusal i l = refusal_of i (room_for i l)

-- ---- a call that is served

-- what the pairing gave: a report number and a price a due track, a discount a report
pub record Chosen : Type 0 where
  pub pairing : List ℕ
  pub prices : List ℕ
  pub discounts : List ℕ

-- the check accepts it for the sector's sheet
pub record Choice (i : Input) (c : Chosen) : Type 0 where
  pub number_each : length c.pairing ≡ tracks_of i
  pub price_each : length c.prices ≡ tracks_of i
  pub discount_each : length c.discounts ≡ reports_of i
  pub accepted : check_answer (tracks_of i) (reports_of i) (cells_of i) c.pairing c.prices c.discounts ≡ 0

-- what the reports are told by
abbrev pub reports_in : Input → Handed
reports_in i = handed (due_slots i.table) i.sector i.batch

-- a fate a report; P is the pairing
unfoldable pub fates_in : Input → List ℕ → List ℕ
fates_in i P = fates_of (reports_in i) P (settled_table i P)

-- counts of fates, with those of the due tracks without a pair and the sum of pair scores
unfoldable pub tally : List ℕ → (coasted dropped scores : ℕ) → Counts
tally fates coasted dropped scores = record {
  paired = count_of paired fates;
  coasted = coasted;
  dropped = dropped;
  started = count_of started fates;
  weak = count_of weak fates;
  full = count_of full fates;
  score_sum = scores;
}

-- in 01's order
abbrev pub count_list : Counts → List ℕ
count_list c = c.paired ∷ c.coasted ∷ c.dropped ∷ c.started ∷ c.weak ∷ c.full ∷ c.score_sum ∷ []

-- counts of paired, coasted, dropped, started, weak, full; the sum of pair scores
unfoldable pub counts_of : Input → List ℕ → Counts
counts_of i P = tally (fates_in i P) (coasted_count i (tracks_of i) P) (dropped_count i (tracks_of i) P) (sum_of_scores (sector_sheet i) (at P))

-- the table is settled, then reports start tracks; the sector moves on by one; room beyond reports and slots keeps its bytes
unfoldable pub after_of : Input → Lent → Chosen → Lent
after_of i l c = record {
  table = started_table (reports_in i) c.pairing (settled_table i c.pairing);
  sector = next_sector i.sector;
  fates = fates_in i c.pairing ++ drop (reports_of i) l.fates;
  slots = slots_of (reports_in i) c.pairing (settled_table i c.pairing) ++ drop (reports_of i) l.slots;
  shown = shown_of (reports_in i) c.pairing (settled_table i c.pairing) ++ drop (reports_of i) l.shown;
  discounts = c.discounts ++ drop (reports_of i) l.discounts;
  prices = slot_prices i c.prices ++ drop (length i.table) l.prices;
}

-- the counts, and all that was lent before and after
pub record ServedWith (i : Input) (l l' : Lent) (counts : Counts) : Type 0 where
  pub chosen : Chosen
  pub choice : Choice i chosen
  pub counted : counts ≡ counts_of i chosen.pairing
  pub left : l' ≡ after_of i l chosen

-- the answer of a call: the refusal of a number, or its counts where it is served (01, 'Numbers a sector call gives back')
unfoldable pub served_by : ℕ → Counts → Result Counts Refusal
served_by number counts = answer_by number counts

-- ---- the whole promise: l before the call, l' after it

-- a refused call's counts are free: its answer does not show them
pub record ServesSector (i : Input) (l l' : Lent) (answer : Result Counts Refusal) : Type 0 where
  pub counts : Counts
  pub answered : answer ≡ served_by (sector_refusal i l) counts
  pub refused : (sector_refusal i l ≡ 0 → ⊥) → l' ≡ l
  pub served : sector_refusal i l ≡ 0 → ServedWith i l l' counts
