-- The rows of the due tracks while a loop writes them.
use Prim.Native.Nat.{ℕ, ◌+◌, ◌-◌, ◌*◌, ◌≤◌, ◌<◌}
use mathlib.Core.Path.{◌≡◌, ◌∙◌}
use mathlib.Core.List.{List, [], ◌++◌, append-nil}
use native.Mathlib.Nat.{suc-mul, zero-mul, le_antisymm, mul-le-mul}
use native.Mathlib.Numerals.{add-one}
use native.Mathlib.Omega.{arith}
use lib.ListN.{length, get_or, drop, length-map, drop_of_length-le}
use lib.Seq.{drop-cons}
use borrow.Rule.Slice.PartMut.{put_mid, Post-is}
use Rattle.laws.proofs.Parts.{part, part_length}
use Rattle.laws.proofs.Sums.{row_in}
use Rattle.laws.proofs.Filled.{Filled, filled_none, filled_chunk, filled_end}
use Rattle.records.specs.declared.Site.{Site}
use Rattle.records.specs.declared.Track.{Track}
use Rattle.records.specs.Fields.{WellFormed}
use Rattle.records.specs.Bytes.{track_of}
use Rattle.records.proofs.Checked.{sound}
use Rattle.intake.specs.Refusals.{Input, due_slots, most_due, most_batch, Ready}
use Rattle.scoresheet.specs.Cells.{pair_cell, row_of, rows_of}
use Rattle.scoresheet.specs.Ready.{RowReady, RowsReady}
use Rattle.scoresheet.proofs.Due.{due_lies, due_well_formed}

-- a list that is written to its end keeps nothing of what it held
pub nothing_beyond : (n : ℕ) (xs ys : List ℕ) → length ys ≤ n → xs ++ drop n ys ≡ xs
nothing_beyond n xs ys h = rw (drop_of_length-le ys h) (append-nil xs)

-- the part of a list that a row takes
pub row_part : (a m : ℕ) (xs : List ℕ) → a + m ≤ length xs → length (part xs a (a + m)) ≡ m
row_part a m xs h = part_length xs a (a + m) h ∙ omega arith

pub row_length : (site : Site) (batch : List (List ℕ)) (slot : List ℕ) → length (row_of site batch slot) ≡ length batch
unfolding row_of
row_length site batch slot = length-map batch (pair_cell (track_of slot) site)

-- the rows of the ranks below rank are written
pub record RowsFilled (i : Input) (due sheet sheet₀ : List ℕ) (rank : ℕ) : Type 0 where
  pub upto : rank ≤ length due
  pub so : Filled (rows_of i due) sheet sheet₀ (rank * length i.batch) (rows_of i (drop rank due))

pub rows_none : (i : Input) (due sheet : List ℕ) → RowsFilled i due sheet sheet 0
rows_none i due sheet = record { upto = omega arith; so = rw (zero-mul (length i.batch)) (filled_none _ sheet) }

-- one row more
pub rows_more : {i : Input} {due sheet sheet₀ : List ℕ} {rank : ℕ} (row : List ℕ) → RowsFilled i due sheet sheet₀ rank → rank < length due → rank * length i.batch + length i.batch ≤ length sheet → row ≡ row_of i.site i.batch (get_or i.table (get_or due rank 0) []) → RowsFilled i due (put_mid (rank * length i.batch) (rank * length i.batch + length i.batch - rank * length i.batch) sheet row) sheet₀ (rank + 1)
unfolding rows_of
rows_more {i} {due} {sheet} {sheet₀} {rank} row w h room e =
    let m : ℕ = length i.batch in
    let next : rows_of i (drop rank due) ≡ row ++ rows_of i (drop (rank + 1) due) = rw (add-one rank, drop-cons due rank 0 h, e) in
    let long : length row ≡ length i.batch = rw e (row_length i.site i.batch (get_or i.table (get_or due rank 0) [])) in
    let count : (rank + 1) * length i.batch ≡ rank * length i.batch + length i.batch = rw (add-one rank, suc-mul) in
    let chunk = filled_chunk row (rows_of i (drop (rank + 1) due)) (rw next at w.so) (rw long room) in
    record {
      upto = omega arith;
      so = rw (count, Post-is (rank * length i.batch) (rank * length i.batch + length i.batch) sheet (omega arith)) (rw long at chunk);
    }

pub rows_end : {i : Input} {due sheet sheet₀ : List ℕ} {rank : ℕ} → RowsFilled i due sheet sheet₀ rank → length due ≤ rank → sheet ≡ rows_of i due ++ drop (length due * length i.batch) sheet₀
unfolding rows_of
rows_end {i} {due} {sheet} {sheet₀} {rank} w h =
    let e : length due ≡ rank = le_antisymm h w.upto in
    rw e (filled_end (rw (drop_of_length-le due h) at w.so))

-- what the next row may count on
pub record NextRow (i : Input) (due sheet : List ℕ) (rank : ℕ) : Type 0 where
  pub start : rank * length i.batch ≤ most_due * most_batch
  pub few : length i.batch ≤ most_batch
  pub room : rank * length i.batch + length i.batch ≤ length sheet
  pub there : get_or due rank 0 < length i.table
  pub track : WellFormed (track_of (get_or i.table (get_or due rank 0) [])) i.sector

pub next_row : {i : Input} {due sheet sheet₀ : List ℕ} {rank : ℕ} → Ready i → RowsReady i due sheet₀ → RowsFilled i due sheet sheet₀ rank → rank < length due → NextRow i due sheet rank
next_row {i} {due} {sheet} {sheet₀} {rank} r q w h =
    let l : rank < length (due_slots i.table) = rw q.due_is at h in
    let s : get_or due rank 0 ≡ get_or (due_slots i.table) rank 0 = rw q.due_is in
    record {
      start = mul-le-mul {n₂ = most_due} (omega (arith, r.few_due)) r.few_reports;
      few = r.few_reports;
      room = rw w.so.same (row_in rank (length due) (length i.batch) (length sheet₀) h q.room);
      there = rw s (due_lies i rank l);
      track = rw s (due_well_formed i rank r l);
    }

pub row_ready : {i : Input} {t : Track} {s : ℕ} {row : List ℕ} → Ready i → WellFormed t s → length row ≡ length i.batch → RowReady t i.batch row
row_ready r w l = record { range_in = w.range_in; speed_in = w.range_speed_in; sound = λ j h. sound _ (r.reports_good j h); room = l }
