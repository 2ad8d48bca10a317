-- The fate of each report, its slot, and whether it is shown (01, 'After pairing').
use Rattle.std.specs.Prelude.{ℕ, ◌≤◌, ◌<◌, ◌≡◌, Bool, false, cond, Option, Some, None, unwrap_or, List, [], leb, ltb, eqb, length, get_or, set}
use Rattle.laws.specs.Lists.{first_index, after_all, outs, count, numbers}
use Rattle.records.specs.declared.Report.{Report}
use Rattle.records.specs.Fields.{is_weak}
use Rattle.records.specs.Bytes.{track_of, bytes_of, report_of, is_free}
use Rattle.numbers.specs.Scales.{sectors}
use Rattle.settling.specs.Settle.{started_of}
use Rattle.intake.specs.declared.Call.{Call}
use Rattle.intake.specs.Refusals.{most_slots, most_batch}
use Rattle.fates.specs.declared.Assigned.{Assigned}
use Rattle.fates.specs.declared.Fate.{Fate}
use Rattle.fates.specs.declared.Fate.TheVariants.{Paired, Started, Weak, Full}
use Rattle.fates.specs.declared.Told.{Told}

-- fates, as they are written (0 is never a fate)
abbrev pub paired : ℕ
paired = 1

abbrev pub started : ℕ
started = 2

abbrev pub weak : ℕ
weak = 3

abbrev pub full : ℕ
full = 4

-- the slot of a report that has none
abbrev pub no_slot : ℕ
no_slot = 65535

-- what is told of a report, as the lists of fates, slots and shown marks have it
unfoldable pub fate_number : Fate → ℕ
fate_number Paired = paired
fate_number Started = started
fate_number Weak = weak
fate_number Full = full

abbrev pub slot_number : Option ℕ → ℕ
slot_number slot = unwrap_or slot no_slot

abbrev pub mark : Bool → ℕ
mark shown = cond shown 1 0

-- a track is shown from its third update on
abbrev pub shown_from : ℕ
shown_from = 3

-- what the reports are told by: the slots of the due tracks as the call found them, the sector that it serves, its batch
pub record Handed : Type 0 where
  pub due : List ℕ
  pub sector : ℕ
  pub batch : List (List ℕ)

abbrev pub handed : List ℕ → ℕ → List (List ℕ) → Handed
handed due sector batch = record { due = due; sector = sector; batch = batch }

abbrev pub handed_in : Assigned → Call → Handed
handed_in assigned call = handed assigned.due.now call.sector call.batch.now

-- the lowest free slot, or the table's length
unfoldable pub free_slot : List (List ℕ) → ℕ
free_slot table = first_index is_free table

-- the rank of the due track that has report j in the pairing P, or P's length
unfoldable pub owner_of : List ℕ → ℕ → ℕ
owner_of P j = first_index (eqb j) P

-- shown: paired, updates now 3 or more
unfoldable pub is_shown : List ℕ → Bool
is_shown slot = leb shown_from (track_of slot).updates

unfoldable pub shown_mark : List ℕ → ℕ
shown_mark slot = mark (is_shown slot)

-- the slot of the due track that has report j
unfoldable pub slot_of : Handed → List ℕ → ℕ → ℕ
slot_of h P j = get_or h.due (owner_of P j) 0

-- a paired report: its track's slot
unfoldable pub told_paired : ℕ → List (List ℕ) → Told
told_paired k table = record { fate = Paired; slot = Some k; shown = is_shown (get_or table k []) }

-- a report that has no track
abbrev pub no_track : Fate → Told
no_track fate = record { fate = fate; slot = None; shown = false }

-- an unpaired report: weak, or with no free slot full; another starts a track in the lowest free slot
abbrev pub told_by : (weak? full? : Bool) → List (List ℕ) → Told
told_by weak? full? table =
    cond weak? (no_track Weak) (cond full? (no_track Full) (record { fate = Started; slot = Some (free_slot table); shown = false }))

unfoldable pub told_unpaired : Report → List (List ℕ) → Told
told_unpaired p table = told_by (is_weak p) (leb (length table) (free_slot table)) table

-- and the table after it; s is the sector served
unfoldable pub after_unpaired : Report → ℕ → List (List ℕ) → List (List ℕ)
after_unpaired p s table =
    cond (eqb (fate_number (told_unpaired p table).fate) started) (set table (free_slot table) (bytes_of (started_of p s))) table

-- what is told of report j, with the table as the reports before it left it
unfoldable pub told_of : Handed → List ℕ → ℕ → List (List ℕ) → Told
told_of h P j table =
    cond (ltb (owner_of P j) (length P)) (told_paired (slot_of h P j) table) (told_unpaired (report_of (get_or h.batch j [])) table)

-- the table after report j
unfoldable pub after_report : Handed → List ℕ → ℕ → List (List ℕ) → List (List ℕ)
after_report h P j table =
    cond (ltb (owner_of P j) (length P)) table (after_unpaired (report_of (get_or h.batch j [])) h.sector table)

-- ---- all reports, in batch order, from the table as pairing left it

unfoldable pub report_numbers : Handed → List ℕ
report_numbers h = numbers (length h.batch)

unfoldable pub started_table : Handed → List ℕ → List (List ℕ) → List (List ℕ)
started_table h P table = after_all (after_report h P) (report_numbers h) table

unfoldable pub fates_of : Handed → List ℕ → List (List ℕ) → List ℕ
fates_of h P table = outs (after_report h P) (λ j t. fate_number (told_of h P j t).fate) (report_numbers h) table

unfoldable pub slots_of : Handed → List ℕ → List (List ℕ) → List ℕ
slots_of h P table = outs (after_report h P) (λ j t. slot_number (told_of h P j t).slot) (report_numbers h) table

unfoldable pub shown_of : Handed → List ℕ → List (List ℕ) → List ℕ
shown_of h P table = outs (after_report h P) (λ j t. mark (told_of h P j t).shown) (report_numbers h) table

-- how many reports have a fate
unfoldable pub count_of : ℕ → List ℕ → ℕ
count_of fate fates = count (eqb fate) fates

-- ---- what the code counts on

-- a pairing has an entry a due track, and each due track lies in the table
pub record Tellable (h : Handed) (P : List ℕ) (table : List (List ℕ)) : Type 0 where
  pub few_slots : length table ≤ most_slots
  pub few_reports : length h.batch ≤ most_batch
  pub sector_in : h.sector < sectors
  pub number_each : length P ≡ length h.due
  pub due_lies : (rank : ℕ) → rank < length h.due → get_or h.due rank 0 < length table

-- room for each report in the three answer lists
pub record RoomToTell (reports : ℕ) (fates slots shown : List ℕ) : Type 0 where
  pub for_fates : reports ≤ length fates
  pub for_slots : reports ≤ length slots
  pub for_shown : reports ≤ length shown
