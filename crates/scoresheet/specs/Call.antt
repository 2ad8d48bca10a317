-- The call that gives a sector's score sheet (01, 'Pairing'; refusals 1 to 9, where 9 is a sheet too short).
use Rattle.std.specs.Prelude.{ℕ, zero, suc, ◌*◌, Bool, List, ◌++◌, leb, length, drop, Result}
use Rattle.intake.specs.declared.Refusal.{Refusal}
use Rattle.intake.specs.Refusals.{Input, refusal_of, answer_by}
use Rattle.scoresheet.specs.declared.Size.{Size}
use Rattle.scoresheet.specs.Cells.{cells_of, tracks_of, reports_of}

-- room for a cell a pair
unfoldable pub cell_room : Input → List ℕ → Bool
cell_room i sheet = leb (tracks_of i * reports_of i) (length sheet)

-- a size, and the sheet's
abbrev pub sized : (tracks reports : ℕ) → Size
sized tracks reports = record { tracks = tracks; reports = reports }

unfoldable pub size_of : Input → Size
size_of i = sized (tracks_of i) (reports_of i)

-- the answer: the refusal of a number, or the sheet's size
unfoldable pub sheeted_by : ℕ → Input → Result Size Refusal
sheeted_by number i = answer_by number (size_of i)

-- the lent sheet: as before where the call is refused; else the cells, and what lies beyond them as before
unfoldable pub sheet_by : ℕ → Input → List ℕ → List ℕ
sheet_by zero i sheet = cells_of i ++ drop (tracks_of i * reports_of i) sheet
sheet_by (suc k) i sheet = sheet

-- both, by the number that the call is to give back
unfoldable pub sheeted_of : Input → List ℕ → Result Size Refusal
sheeted_of i sheet = sheeted_by (refusal_of i (cell_room i sheet)) i

unfoldable pub sheet_after : Input → List ℕ → List ℕ
sheet_after i sheet = sheet_by (refusal_of i (cell_room i sheet)) i sheet
