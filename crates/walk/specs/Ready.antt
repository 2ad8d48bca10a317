-- What the loops over the slots count on.
use Rattle.std.specs.Prelude.{ℕ, ◌≤◌, ◌<◌, ◌≡◌, true, List, [], length, get_or}
use Rattle.numbers.specs.Scales.{sectors}
use Rattle.records.specs.Fields.{track_fields, report_fields, bad_report_field}
use Rattle.laws.specs.Lists.{at}
use Rattle.records.specs.Bytes.{report_of, bad_slot_field, slot_due}
use Rattle.matching.specs.Pairing.{none}
use Rattle.intake.specs.Refusals.{Input, most_slots, due_slots}
use Rattle.laws.specs.Places.{Distinct}

-- the pairing names, for each due track, a report that is there or none
pub record Names (i : Input) (P : List ℕ) : Type 0 where
  pub number_each : length (due_slots i.table) ≤ length P
  pub there : (rank : ℕ) → rank < length (due_slots i.table) → (at P rank ≡ none → ⊥) → at P rank < length i.batch

-- with it the due list, a price for each due track, and room for a price a slot
pub record TableReady (i : Input) (due P track_prices prices : List ℕ) : Type 0 where
  pub names : Names i P
  pub due_is : due ≡ due_slots i.table
  pub priced : length (due_slots i.table) ≤ length track_prices
  pub room : length i.table ≤ length prices

-- what the step of one slot counts on; rank is that of a due track in the pairing
pub record SlotReady (sector : ℕ) (batch : List (List ℕ)) (P slot : List ℕ) (rank : ℕ) : Type 0 where
  pub sector_in : sector < sectors
  pub slot_good : bad_slot_field slot sector ≡ track_fields
  pub reports_good : (j : ℕ) → j < length batch → bad_report_field (report_of (get_or batch j [])) ≡ report_fields
  pub ranked : slot_due slot ≡ true → rank < length P
  pub there : slot_due slot ≡ true → (at P rank ≡ none → ⊥) → at P rank < length batch

-- and the loop over the due list
pub record DueReady (sector : ℕ) (batch : List (List ℕ)) (P due : List ℕ) (table : List (List ℕ)) : Type 0 where
  pub distinct : Distinct due (length table)
  pub settles : (rank : ℕ) → rank < length due → SlotReady sector batch P (get_or table (get_or due rank 0) []) rank
  pub few : length table ≤ most_slots

pub record DuePriced (due track_prices prices : List ℕ) : Type 0 where
  pub distinct : Distinct due (length prices)
  pub priced : length due ≤ length track_prices
  pub few : length prices ≤ most_slots
