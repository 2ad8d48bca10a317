-- A sector's sheet, as the pairing reads it: a cell a pair, each none or a score.
use Prim.Native.Nat.{ℕ, zero, suc, ◌+◌, ◌*◌, ◌<◌}
use mathlib.Core.Path.{◌≡◌, refl, sym}
use mathlib.Core.List.{List, [], ◌∷◌}
use native.Mathlib.Nat.{suc-mul, zero-mul, le_of_suc-le-suc, not-suc-le-zero}
use native.Mathlib.Omega.{arith}
use lib.ListN.{length, get_or, length-append, get_or-append}
use lib.Seq.{get_or-append-add}
use Rattle.records.specs.Bytes.{track_of, report_of}
use Rattle.std.specs.Prelude.{Option, Some, None}
use Rattle.scoring.specs.Score.{digits_end, score_of}
use Rattle.scoring.proofs.ScoreLaws.{score_below}
use Rattle.matching.specs.Pairing.{none, score_end, InRange}
use Rattle.intake.specs.Refusals.{Input, due_slots, Ready}
use Rattle.scoresheet.specs.Cells.{cell_of, pair_cell, row_of, rows_of, cells_of, tracks_of, reports_of, due_track, sector_sheet}
use Rattle.laws.proofs.InPlace.{map_at}
use Rattle.scoresheet.proofs.Rows.{row_length}

rows_length : (i : Input) (ks : List ℕ) → length (rows_of i ks) ≡ length ks * length i.batch
unfolding rows_of
rows_length i [] = sym (zero-mul (length i.batch))
rows_length i (k ∷ ks) =
    rw (length-append, row_length i.site i.batch (get_or i.table k []), rows_length i ks, suc-mul) (omega arith)

-- a cell a pair
pub cells_length : (i : Input) → length (cells_of i) ≡ tracks_of i * reports_of i
unfolding cells_of tracks_of reports_of
cells_length i = rows_length i (due_slots i.table)

rows_at : (i : Input) (ks : List ℕ) (rank j : ℕ) → rank < length ks → j < length i.batch → get_or (rows_of i ks) (rank * length i.batch + j) 0 ≡ pair_cell (track_of (get_or i.table (get_or ks rank 0) [])) i.site (get_or i.batch j [])
unfolding rows_of row_of
rows_at i [] rank j hr hj = absurd (not-suc-le-zero hr)
rows_at i (k ∷ ks) zero j hr hj =
    let z : 0 * length i.batch + j ≡ j = rw zero-mul (omega arith) in
    rw (z, get_or-append (row_of i.site i.batch (get_or i.table k [])) (rows_of i ks) 0 j (rw (row_length i.site i.batch (get_or i.table k [])) hj))
    (map_at (pair_cell (track_of (get_or i.table k [])) i.site) i.batch j [] 0 hj)
rows_at i (k ∷ ks) (suc rank) j hr hj =
    let row : List ℕ = row_of i.site i.batch (get_or i.table k []) in
    let l : length (row_of i.site i.batch (get_or i.table k [])) ≡ length i.batch = row_length i.site i.batch (get_or i.table k []) in
    let z : suc rank * length i.batch + j ≡ length (row_of i.site i.batch (get_or i.table k [])) + (rank * length i.batch + j) = rw (suc-mul, l) (omega arith) in
    rw (z, get_or-append-add (row_of i.site i.batch (get_or i.table k [])) (rows_of i ks) (rank * length i.batch + j) 0)
    (rows_at i ks rank j (le_of_suc-le-suc hr) hj)

-- the cell of the a-th due track and the b-th report is what the score of that pair says
pub cell_is : (i : Input) (rank j : ℕ) → rank < tracks_of i → j < reports_of i → (sector_sheet i).cell rank j ≡ cell_of (score_of (due_track i rank) (report_of (get_or i.batch j [])) i.site)
unfolding sector_sheet cells_of tracks_of reports_of pair_cell
cell_is i rank j hr hj = rows_at i (due_slots i.table) rank j hr hj

-- an admissible pair's cell is a score
cell_below : (s : Option ℕ) → ((x : ℕ) → s ≡ Some x → x < digits_end) → (cell_of s ≡ none → ⊥) → cell_of s < score_end
unfolding cell_of
cell_below None h n = absurd (n refl)
cell_below (Some x) h n = h x refl

-- few enough tracks, and each admissible pair of a sector's own sheet has a score
pub sheet_in_range : (i : Input) → Ready i → InRange (sector_sheet i)
unfolding sector_sheet tracks_of
sheet_in_range i r = record {
  tracks_few = r.few_due;
  scores = λ rank j hr hj n. rw (cell_is i rank j hr hj) (cell_below _ (λ x e. score_below _ _ _ x e) (rw (cell_is i rank j hr hj) at n));
}
