-- The gains a and b (01, 'After pairing'; 002). Quality and confidence are the report's.
use Rattle.std.specs.Prelude.{ℕ, zero, suc, cond, List, [], ◌∷◌, eqb, get_or}
use Rattle.records.specs.declared.Track.{Track}
use Rattle.records.specs.declared.Report.{Report}
use Rattle.records.specs.Fields.{updates_at_start}

-- a and b are tenths: this many are the whole of D
abbrev pub tenths : ℕ
tenths = 10

-- a by quality; columns are confidence 0..7
unfoldable pub row_a : ℕ → List ℕ
row_a zero = 6 ∷ 6 ∷ 6 ∷ 6 ∷ 6 ∷ 6 ∷ 6 ∷ 10 ∷ []
row_a (suc zero) = 6 ∷ 6 ∷ 6 ∷ 9 ∷ 9 ∷ 9 ∷ 9 ∷ 10 ∷ []
row_a (suc (suc q)) = 6 ∷ 6 ∷ 6 ∷ 10 ∷ 9 ∷ 10 ∷ 10 ∷ 10 ∷ []

-- b by quality; columns are confidence 0..7
unfoldable pub row_b : ℕ → List ℕ
row_b zero = 3 ∷ 3 ∷ 3 ∷ 3 ∷ 3 ∷ 3 ∷ 3 ∷ 10 ∷ []
row_b (suc zero) = 3 ∷ 3 ∷ 3 ∷ 7 ∷ 6 ∷ 7 ∷ 7 ∷ 10 ∷ []
row_b (suc (suc q)) = 3 ∷ 3 ∷ 3 ∷ 9 ∷ 6 ∷ 9 ∷ 9 ∷ 10 ∷ []

-- what a table of such rows has at a quality and a confidence
unfoldable pub listed_at : List (List ℕ) → (quality confidence : ℕ) → ℕ
listed_at table quality confidence = get_or (get_or table quality []) confidence 0

-- azimuth-degrade 1 gives 6 and 3
abbrev pub degraded_a : ℕ
degraded_a = 6

abbrev pub degraded_b : ℕ
degraded_b = 3

-- updates 1 before the pairing gives 10 in every case; else azimuth-degrade 1 decides; else what the table lists
unfoldable pub gain : Track → Report → (degraded listed : ℕ) → ℕ
gain t p degraded listed = cond (eqb t.updates updates_at_start) tenths (cond (eqb p.azimuth_degrade 1) degraded listed)

unfoldable pub gain_a : Track → Report → ℕ
gain_a t p = gain t p degraded_a (get_or (row_a p.quality) p.confidence 0)

unfoldable pub gain_b : Track → Report → ℕ
gain_b t p = gain t p degraded_b (get_or (row_b p.quality) p.confidence 0)
