-- What the steps after pairing leave: the answer's lists, the table and the counts, as the whole promise has them.
use Rattle.std.specs.Prelude.{ℕ, ◌≡◌, List, ◌++◌, length, drop}
use Rattle.intake.specs.Refusals.{Input}
use Rattle.scoresheet.specs.Cells.{reports_of}
use Rattle.walk.specs.Table.{settled_table, slot_prices}
use Rattle.fates.specs.Fates.{started_table, slots_of, shown_of}
use Rattle.sector.specs.declared.Counts.{Counts}
use Rattle.sector.specs.Serve.{Lent, reports_in, fates_in, counts_of}

pub record SettledAs (i : Input) (P track_prices : List ℕ) (l l' : Lent) (counts : Counts) : Type 0 where
  pub table : l'.table ≡ started_table (reports_in i) P (settled_table i P)
  pub fate : l'.fates ≡ fates_in i P ++ drop (reports_of i) l.fates
  pub slot : l'.slots ≡ slots_of (reports_in i) P (settled_table i P) ++ drop (reports_of i) l.slots
  pub show : l'.shown ≡ shown_of (reports_in i) P (settled_table i P) ++ drop (reports_of i) l.shown
  pub discount : l'.discounts ≡ l.discounts
  pub price : l'.prices ≡ slot_prices i track_prices ++ drop (length i.table) l.prices
  pub count : counts ≡ counts_of i P
