-- Accepted sector calls, one after another (01, 'Numbers carried': a wait counts accepted calls).
use Rattle.std.specs.Prelude.{ℕ, suc, ◌+◌, ◌-◌, ◌%◌, ◌≤◌, ◌<◌, ◌≡◌, Bool, true, ◌&&◌, List, [], eqb, length, get_or, set, Result}
use Rattle.laws.specs.Lists.{at, count}
use Rattle.numbers.specs.Scales.{sectors, soonest}
use Rattle.numbers.specs.Sectors.{sector_of, next_sector}
use Rattle.records.specs.declared.Site.{Site}
use Rattle.records.specs.declared.Track.{Track}
use Rattle.records.specs.Fields.{held, wait_most}
use Rattle.records.specs.Bytes.{wait_at, mark_at, track_of, bytes_of, slot_due, is_held, SlotsGood}
use Rattle.fates.specs.Fates.{paired, started}
use Rattle.intake.specs.declared.Refusal.{Refusal}
use Rattle.sector.specs.declared.Counts.{Counts}
use Rattle.sector.specs.Serve.{Lent, input_of, sector_refusal, ServesSector}

-- an accepted call: what it was handed and answered; l was lent to it, and l' is what it left there
pub record Accepted (l l' : Lent) : Type 0 where
  pub site : Site
  pub batch : List (List ℕ)
  pub answer : Result Counts Refusal
  pub not_refused : sector_refusal (input_of l site batch) l ≡ 0
  pub promise : ServesSector (input_of l site batch) l l' answer

-- the next call is lent the table and the sector as they were left; the lists for its answer may be others
pub record HandsOn (l' next : Lent) : Type 0 where
  pub table : next.table ≡ l'.table
  pub sector : next.sector ≡ l'.sector

-- n accepted calls after one that left l; the last of them left l'
pub data Calls : ℕ → Lent → Lent → Type 0 where
  no_more : {l : Lent} → Calls 0 l l
  one_more : {n : ℕ} {l l' next last : Lent} → Calls n l l' → HandsOn l' next → Accepted next last → Calls (suc n) l last

-- what a call leaves is fit for the next: as many slots as before, a sector, and no slot malformed
pub record LeftGood (slots : ℕ) (l' : Lent) : Type 0 where
  pub slots_same : length l'.table ≡ slots
  pub sector_in : l'.sector < sectors
  pub slots_good : SlotsGood l'.table l'.sector

-- a number that the table or the sector can be refused by
pub data OfTable : ℕ → Type 0 where
  is_1 : OfTable 1
  is_2 : OfTable 2
  is_4 : OfTable 4

-- ---- one slot

-- what stands in slot k
abbrev pub slot_at : Lent → ℕ → List ℕ
slot_at l k = get_or l.table k []

-- n calls later a slot that holds a track has the same bytes but for the wait, which is n less
pub record WaitsOn (n : ℕ) (slot after : List ℕ) : Type 0 where
  pub only_wait : after ≡ set slot wait_at (at slot wait_at - n)
  pub less : at after wait_at + n ≡ at slot wait_at

-- the track in slot k was updated, coasted and kept, or started in a call that was lent l and left l': the slot holds a track, and one
-- that it held before the call was due
pub record ServedIn (l l' : Lent) (k : ℕ) : Type 0 where
  pub lies : k < length l.table
  pub held_mark : at (slot_at l' k) mark_at ≡ held
  pub was_due : at (slot_at l k) mark_at ≡ held → slot_due (slot_at l k) ≡ true

-- so was the track in slot k, and the slot now holds t
pub record ServedTo (t : Track) (l l' : Lent) (k : ℕ) : Type 0 where
  pub served_in : ServedIn l l' k
  pub holds : slot_at l' k ≡ bytes_of t

-- the fates of a report that has a track: its slot is told with it
pub data HasTrack : ℕ → Type 0 where
  by_pair : HasTrack paired
  by_start : HasTrack started

-- the stored wait is one of 15..46 and leads from the sector after s to the predicted sector
pub record WaitSet (s : ℕ) (slot : List ℕ) : Type 0 where
  pub not_sooner : soonest ≤ at slot wait_at + 1
  pub not_later : at slot wait_at ≤ wait_most
  pub turn_comes : (next_sector s + at slot wait_at) % sectors ≡ sector_of (track_of slot).azimuth

-- ---- one slot over many calls

-- a track that was in a slot is still there n calls later: it waits on, and is due just when n is its wait
pub record StillThere (n : ℕ) (slot after : List ℕ) : Type 0 where
  pub waits_on : WaitsOn n slot after
  pub held_mark : at after mark_at ≡ held
  pub due_when : slot_due after ≡ eqb n (at slot wait_at)

-- of the calls after one that was lent l and left l', the j-th is the first that finds the track in slot k due
pub record DueAt (j : ℕ) (l l' : Lent) (k : ℕ) : Type 0 where
  pub not_sooner : soonest ≤ j
  pub not_later : j < soonest + sectors
  pub meets : (l.sector + j) % sectors ≡ sector_of (track_of (slot_at l' k)).azimuth
  pub stored : at (slot_at l' k) wait_at + 1 ≡ j
  pub until : {n : ℕ} {last : Lent} → Calls n l' last → n < j → StillThere n (slot_at l' k) (slot_at last k)

-- a slot that holds a track which waits n calls
unfoldable pub waiting : ℕ → List ℕ → Bool
waiting n slot = is_held slot && eqb n (at slot wait_at)

-- how many of a table's tracks do
unfoldable pub waiting_count : ℕ → List (List ℕ) → ℕ
waiting_count n table = count (waiting n) table
