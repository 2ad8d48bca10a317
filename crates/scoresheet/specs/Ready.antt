-- What the loops that fill a sheet count on.
use Rattle.std.specs.Prelude.{ℕ, ◌*◌, ◌≤◌, ◌<◌, ◌≡◌, List, [], length, get_or, nat_abs}
use Rattle.numbers.specs.Scales.{range_most, range_speed_most}
use Rattle.records.specs.declared.Track.{Track}
use Rattle.records.specs.Fields.{Sound}
use Rattle.records.specs.Bytes.{report_of}
use Rattle.intake.specs.Refusals.{Input, due_slots}

pub record RowReady (t : Track) (batch : List (List ℕ)) (row : List ℕ) : Type 0 where
  pub range_in : t.range ≤ range_most
  pub speed_in : nat_abs t.range_speed ≤ range_speed_most
  pub sound : (j : ℕ) → j < length batch → Sound (report_of (get_or batch j []))
  pub room : length row ≡ length batch

pub record RowsReady (i : Input) (due sheet : List ℕ) : Type 0 where
  pub due_is : due ≡ due_slots i.table
  pub room : length due * length i.batch ≤ length sheet
