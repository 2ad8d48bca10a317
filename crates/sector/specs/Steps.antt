-- What the steps of a served call count on.
use Rattle.std.specs.Prelude.{ℕ, ◌*◌, ◌≤◌, ◌≡◌, List, length, drop}
use Rattle.laws.specs.Lists.{at}
use Rattle.matching.specs.Pairing.{ValidPairing}
use Rattle.matching.specs.Answer.{check_answer}
use Rattle.intake.specs.Refusals.{Input, due_slots}
use Rattle.scoresheet.specs.Cells.{cells_of, tracks_of, reports_of, sector_sheet}

-- the due list, the sheet and a pairing of it, as the sector's own
pub record PairedUp (i : Input) (due sheet pairing prices : List ℕ) : Type 0 where
  pub due_is : due ≡ due_slots i.table
  pub sheet_is : sheet ≡ cells_of i
  pub number_each : length pairing ≡ tracks_of i
  pub price_each : length prices ≡ tracks_of i
  pub valid : ValidPairing (sector_sheet i) (at pairing)

-- the due list, and lists of the right sizes for the sheet, a report number and a price a due track, and a discount a report
pub record Pairable (i : Input) (due sheet pairing prices discounts : List ℕ) : Type 0 where
  pub due_is : due ≡ due_slots i.table
  pub cell_each : length sheet ≡ tracks_of i * reports_of i
  pub number_room : length pairing ≡ tracks_of i
  pub price_room : length prices ≡ tracks_of i
  pub discount_room : reports_of i ≤ length discounts

-- what pairing left in them
pub record PairedOff (i : Input) (due sheet pairing prices discounts discounts' : List ℕ) : Type 0 where
  pub up : PairedUp i due sheet pairing prices
  pub accepted : check_answer (tracks_of i) (reports_of i) (cells_of i) pairing prices discounts' ≡ 0
  pub beyond : drop (reports_of i) discounts' ≡ drop (reports_of i) discounts

-- room in the answer's lists
pub record Room (table reports : ℕ) (fates slots shown discounts prices : ℕ) : Type 0 where
  pub for_fates : reports ≤ fates
  pub for_slots : reports ≤ slots
  pub for_shown : reports ≤ shown
  pub for_discounts : reports ≤ discounts
  pub for_prices : table ≤ prices
