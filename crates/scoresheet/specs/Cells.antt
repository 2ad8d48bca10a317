-- A sector's score sheet: due tracks in slot order, reports in batch order, cells row by row (01, 'Pairing').
use Rattle.std.specs.Prelude.{ℕ, List, [], ◌∷◌, ◌++◌, map, length, get_or, Option, Some, None}
use Rattle.records.specs.declared.Track.{Track}
use Rattle.records.specs.declared.Site.{Site}
use Rattle.records.specs.Bytes.{track_of, report_of}
use Rattle.scoring.specs.Score.{score_of}
use Rattle.matching.specs.Pairing.{none, Sheet, sheet_of}
use Rattle.intake.specs.Refusals.{Input, due_slots}

-- what a cell says of a pair
unfoldable pub cell_of : Option ℕ → ℕ
cell_of None = none
cell_of (Some score) = score

-- the cell of a track and a report
unfoldable pub pair_cell : Track → Site → List ℕ → ℕ
pair_cell t site report = cell_of (score_of t (report_of report) site)

-- a track's row: its cells with the reports of the batch
unfoldable pub row_of : Site → List (List ℕ) → List ℕ → List ℕ
row_of site batch slot = map (pair_cell (track_of slot) site) batch

-- the rows of some slots of the table
unfoldable pub rows_of : Input → List ℕ → List ℕ
rows_of i [] = []
rows_of i (k ∷ ks) = row_of i.site i.batch (get_or i.table k []) ++ rows_of i ks

-- the sheet's cells
unfoldable pub cells_of : Input → List ℕ
cells_of i = rows_of i (due_slots i.table)

-- how many tracks are due, and how many reports are handed in
unfoldable pub tracks_of : Input → ℕ
tracks_of i = length (due_slots i.table)

unfoldable pub reports_of : Input → ℕ
reports_of i = length i.batch

-- the due tracks have ranks 0, 1, .. in slot order, and so have the rows and the entries of a pairing: the slot of the due track of a
-- rank, and that track as the call found it
abbrev pub due_slot : Input → ℕ → ℕ
due_slot i rank = get_or (due_slots i.table) rank 0

abbrev pub due_track : Input → ℕ → Track
due_track i rank = track_of (get_or i.table (due_slot i rank) [])

-- the sheet, as the pairing reads it
unfoldable pub sector_sheet : Input → Sheet
sector_sheet i = sheet_of (tracks_of i) (reports_of i) (cells_of i)
