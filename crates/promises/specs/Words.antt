-- What a call and its answer say: of one report, of one due track, of all of them; P is the pairing.
use Rattle.std.specs.Prelude.{ℕ, ◌+◌, ◌-◌, ◌≤◌, ◌<◌, ◌≡◌, true, ◌⊎◌, List, [], length, get_or, take, Result, Ok, Err}
use Rattle.laws.specs.Lists.{at, count}
use Rattle.records.specs.Bytes.{bytes_of, report_of, is_held, is_free}
use Rattle.settling.specs.Settle.{updated_of, started_of}
use Rattle.matching.specs.Pairing.{pairs, sum_of_scores, Agree}
use Rattle.engine.specs.Call.{Paired}
use Rattle.intake.specs.declared.Refusal.{Refusal}
use Rattle.intake.specs.Refusals.{Input, number}
use Rattle.scoresheet.specs.declared.Size.{Size}
use Rattle.scoresheet.specs.Cells.{tracks_of, reports_of, due_slot, due_track, sector_sheet}
use Rattle.walk.specs.Table.{settled_table}
use Rattle.fates.specs.Fates.{paired, started, shown_from, slots_of, shown_of}
use Rattle.sector.specs.declared.Counts.{Counts}
use Rattle.sector.specs.Serve.{Lent, sector_refusal, Chosen, Choice, reports_in, fates_in}

-- what report j is told: its fate, its slot, whether it is shown
abbrev pub fate_at : Input → List ℕ → ℕ → ℕ
fate_at i P j = get_or (fates_in i P) j 0

abbrev pub told_slot_at : Input → List ℕ → ℕ → ℕ
told_slot_at i P j = get_or (slots_of (reports_in i) P (settled_table i P)) j 0

abbrev pub shown_at : Input → List ℕ → ℕ → ℕ
shown_at i P j = get_or (shown_of (reports_in i) P (settled_table i P)) j 0

-- so many updates before the one that shows a track
abbrev pub updates_before : ℕ
updates_before = shown_from - 1

-- report j is paired with the due track of some rank, which had two updates or more when the call came
pub record PairedWithOld (i : Input) (P : List ℕ) (j : ℕ) : Type 0 where
  pub rank : ℕ
  pub due : rank < tracks_of i
  pub has : at P rank ≡ j
  pub old : updates_before ≤ (due_track i rank).updates

-- report j is told that it is paired, in the slot of the due track of a rank
pub record ToldPaired (i : Input) (P : List ℕ) (j rank : ℕ) : Type 0 where
  pub fate : fate_at i P j ≡ paired
  pub slot : told_slot_at i P j ≡ due_slot i rank

-- the shown mark of report j is 1 exactly when it is so paired, else 0
pub record ShownExactlyWhen (i : Input) (P : List ℕ) (j : ℕ) : Type 0 where
  pub only : shown_at i P j ≡ 1 → PairedWithOld i P j
  pub when : PairedWithOld i P j → shown_at i P j ≡ 1
  pub otherwise : (PairedWithOld i P j → ⊥) → shown_at i P j ≡ 0

-- the due track of a rank has a report, which is told so, and is shown where the track had two updates or more
pub record TrackContinued (i : Input) (P : List ℕ) (rank : ℕ) : Type 0 where
  pub report : ℕ
  pub here : report < reports_of i
  pub has : at P rank ≡ report
  pub told : ToldPaired i P report rank
  pub shown : updates_before ≤ (due_track i rank).updates → shown_at i P report ≡ 1

-- how many slots of a table hold a track
unfoldable pub held_count : List (List ℕ) → ℕ
held_count table = count is_held table

-- the due track of a rank, as the call leaves it: some report is told paired in its slot, is shown where the track had two updates or more, and
-- the slot holds the track, updated by that report
pub record SeenContinued (i : Input) (l' : Lent) (rank : ℕ) : Type 0 where
  pub report : ℕ
  pub here : report < reports_of i
  pub fate : get_or l'.fates report 0 ≡ paired
  pub slot : get_or l'.slots report 0 ≡ due_slot i rank
  pub shown : updates_before ≤ (due_track i rank).updates → get_or l'.shown report 0 ≡ 1
  pub continued : get_or l'.table (due_slot i rank) [] ≡ bytes_of (updated_of (due_track i rank) (report_of (get_or i.batch report [])) i.sector)

-- report j started its track in slot k, which pairing had left free, and is told so; slot is what stands there after the call
pub record StartedThere (i : Input) (P : List ℕ) (j k : ℕ) (slot : List ℕ) : Type 0 where
  pub here : j < reports_of i
  pub lies : k < length i.table
  pub fate : fate_at i P j ≡ started
  pub told : told_slot_at i P j ≡ k
  pub found_free : is_free (get_or (settled_table i P) k []) ≡ true
  pub holds : slot ≡ bytes_of (started_of (report_of (get_or i.batch j [])) i.sector)

-- what slot k holds after the call: as it was left before any track started, or a track that some report started there
abbrev pub LeftOrStarted : Input → List ℕ → ℕ → (left slot : List ℕ) → Type 0
LeftOrStarted i P k left slot = (slot ≡ left) ⊎ ((j : ℕ) × StartedThere i P j k slot)

-- the first entries of the answer's lists are what report j is told, and its discount
pub record AnswersTold (i : Input) (c : Chosen) (l' : Lent) (j : ℕ) : Type 0 where
  pub fate : get_or l'.fates j 0 ≡ fate_at i c.pairing j
  pub slot : get_or l'.slots j 0 ≡ told_slot_at i c.pairing j
  pub shown : get_or l'.shown j 0 ≡ shown_at i c.pairing j
  pub discount : get_or l'.discounts j 0 ≡ at c.discounts j

-- the counts of a served call account for all there is
pub record Accounted (i : Input) (c : Chosen) (l' : Lent) (counts : Counts) : Type 0 where
  -- each report has one fate
  pub reports : counts.paired + counts.started + counts.weak + counts.full ≡ reports_of i
  -- each due track is paired, coasts or is dropped
  pub due_tracks : counts.paired + counts.coasted + counts.dropped ≡ tracks_of i
  -- paired and score sum are those of the pairing
  pub as_paired : counts.paired ≡ pairs (sector_sheet i) (at c.pairing)
  pub as_scored : counts.score_sum ≡ sum_of_scores (sector_sheet i) (at c.pairing)
  -- held slots after = before + started - dropped, said with the dropped ones on the other side
  pub slots : held_count l'.table + counts.dropped ≡ held_count i.table + counts.started

-- ---- the three calls

-- the first entries of what a pairing call wrote, as many as the sector has due tracks and reports
abbrev pub first_of : Input → (pairing prices discounts : List ℕ) → Chosen
first_of i pairing prices discounts =
    record { pairing = take (tracks_of i) pairing; prices = take (tracks_of i) prices; discounts = take (reports_of i) discounts }

-- room in a pairing call's lists for a sector's pairing, prices and discounts
pub record RoomToPair (i : Input) (pairing prices discounts : List ℕ) : Type 0 where
  pub for_pairing : tracks_of i ≤ length pairing
  pub for_prices : tracks_of i ≤ length prices
  pub for_discounts : reports_of i ≤ length discounts

-- the pairing call is done, and a sector call may choose what it wrote
pub record Together (i : Input) (pairing' prices' discounts' : List ℕ) (answer : Paired) : Type 0 where
  pub done : answer ≡ Ok tt
  pub choice : Choice i (first_of i pairing' prices' discounts')

-- a sector call and a sheet call are refused alike
pub record RefusedAlike (answer : Result Counts Refusal) (sheeted : Result Size Refusal) (r : Refusal) : Type 0 where
  pub by_sheet : answer ≡ Err r → sheeted ≡ Err r
  pub by_sector : sheeted ≡ Err r → answer ≡ Err r

-- ---- a call as a whole

-- the answer is a refusal exactly when that refusal's number is the one that the call is to give back; then all that was lent keeps its bytes
pub record RefusedExactlyWhen (i : Input) (l l' : Lent) (answer : Result Counts Refusal) (r : Refusal) : Type 0 where
  pub only : answer ≡ Err r → sector_refusal i l ≡ number r
  pub when : sector_refusal i l ≡ number r → answer ≡ Err r
  pub kept : answer ≡ Err r → l' ≡ l

-- two choices have as many pairs and the same sum of pair scores, also as counted
pub record SameScore (i : Input) (c c' : Chosen) (counts counts' : Counts) : Type 0 where
  pub agree : Agree (sector_sheet i) (at c.pairing) (at c'.pairing)
  pub same_counted : counts.score_sum ≡ counts'.score_sum

-- two counts that differ at most in what became of the tracks and of the reports that are left out
pub record CountedAlike (counts counts' : Counts) : Type 0 where
  pub paired : counts.paired ≡ counts'.paired
  pub missed : counts.coasted + counts.dropped ≡ counts'.coasted + counts'.dropped
  pub unpaired : counts.started + counts.weak + counts.full ≡ counts'.started + counts'.weak + counts'.full
  pub scored : counts.score_sum ≡ counts'.score_sum
