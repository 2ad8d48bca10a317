-- 01, 'Wrong turns we have seen': nearest report first, track by track. The old filter, kept for the story.
use Rattle.std.specs.Prelude.{ℕ, ◌*◌, ◌≤◌, ◌≡◌, Bool, true, cond, ◌||◌, List, leb, length, get_or, take, drop, set}
use Rattle.laws.specs.Lists.{after_all, outs, numbers}
use Rattle.matching.specs.Pairing.{none, most_tracks, most_reports}

-- the score of a report in a track's row; none, which is above every score, where there is no such report
abbrev pub score_in : List ℕ → ℕ → ℕ
score_in row report = get_or row report none

-- report j takes the place of the nearest so far if it is free and its score is lower
unfoldable pub nearer_of : (row : List ℕ) (taken : List Bool) → (report nearest : ℕ) → ℕ
nearer_of row taken j nearest = cond (get_or taken j true || leb (score_in row nearest) (score_in row j)) nearest j

-- a track's admissible report of the lowest score among those still free, the first of several; none where there is none
unfoldable pub nearest_of : (row : List ℕ) (taken : List Bool) → ℕ
nearest_of row taken = after_all (nearer_of row taken) (numbers (length row)) none

-- track i's row of a sheet of m reports
abbrev pub row_at : (m : ℕ) (cells : List ℕ) → ℕ → List ℕ
row_at m cells i = take m (drop (i * m) cells)

-- each track in table order takes its nearest, which is free no more
unfoldable pub nearest_for : (m : ℕ) (cells : List ℕ) → ℕ → List Bool → ℕ
nearest_for m cells i taken = nearest_of (row_at m cells i) taken

unfoldable pub taken_after : (m : ℕ) (cells : List ℕ) → ℕ → List Bool → List Bool
taken_after m cells i taken = set taken (nearest_for m cells i taken) true

unfoldable pub nearest_first : (n m : ℕ) (cells : List ℕ) → List Bool → List ℕ
nearest_first n m cells taken = outs (taken_after m cells) (nearest_for m cells) (numbers n) taken

-- what the code counts on
pub record Filterable (m : ℕ) (cells : List ℕ) (taken : List Bool) (n : ℕ) : Type 0 where
  pub tracks_few : n ≤ most_tracks
  pub reports_few : m ≤ most_reports
  pub cells_long : n * m ≤ length cells
  pub marks : length taken ≡ m
