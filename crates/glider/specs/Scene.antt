-- One turn over the ridge, with the glider close by.
use Rattle.std.specs.Prelude.{ℕ, Bool, false, List, [], ◌∷◌, pos}
use Rattle.records.specs.declared.Track.{Track}
use Rattle.records.specs.declared.Report.{Report}
use Rattle.records.specs.declared.Site.{Site}
use Rattle.records.specs.Fields.{held}
use Rattle.records.specs.Bytes.{bytes_of, report_bytes_of}
use Rattle.matching.specs.Pairing.{none}
use Rattle.intake.specs.Refusals.{Input, input}

-- a due track without misses, and a return
abbrev pub track_at : (range azimuth range_speed azimuth_speed updates quality : ℕ) → Track
track_at range azimuth range_speed azimuth_speed updates quality = record {
  range = range;
  azimuth = azimuth;
  range_speed = pos range_speed;
  azimuth_speed = pos azimuth_speed;
  updates = updates;
  misses = 0;
  confidence = 5;
  quality = quality;
  wait = 0;
  mark = held;
}

abbrev pub return_at : (range azimuth quality doppler : ℕ) → Report
return_at range azimuth quality doppler = record {
  range = range;
  azimuth = azimuth;
  confidence = 5;
  quality = quality;
  azimuth_degrade = 0;
  high = doppler;
  low = doppler;
}

-- the ridge's track stands first in the table, then the glider's
unfoldable pub table : List (List ℕ)
table = bytes_of (track_at 8192 7144 0 0 9 0) ∷ bytes_of (track_at 8220 7200 8 110 5 3) ∷ []

-- another face of the ridge shines, off its track; the glider's return lies where its track says, and nearer to the ridge's track
unfoldable pub batch : List (List ℕ)
batch = report_bytes_of (return_at 8188 7044 0 0) ∷ report_bytes_of (return_at 8216 7204 3 8) ∷ []

abbrev pub site : Site
site = record { range_sigma = 16; azimuth_sigma = 16 }

abbrev pub sector : ℕ
sector = 3

abbrev pub scene : Input
scene = input table sector site batch

-- its score sheet, a row a track: the ridge's track with the ridge's return and with the glider's, then the glider's track
abbrev pub cells : List ℕ
cells = 1585730 ∷ 794625 ∷ none ∷ 786960 ∷ []

-- the numbers of the two tracks and of the two returns
abbrev pub ridge : ℕ
ridge = 0

abbrev pub glider : ℕ
glider = 1

-- before the first track chooses, both returns are free
abbrev pub all_free : List Bool
all_free = false ∷ false ∷ []

-- what the old filter makes of it: the ridge's track has the glider's return, and the glider's track has none
abbrev pub lost : List ℕ
lost = glider ∷ none ∷ []

-- and what we do: each track has its own
abbrev pub kept : List ℕ
kept = ridge ∷ glider ∷ []

-- both were established before, so both returns are shown
abbrev pub both_shown : List ℕ
both_shown = 1 ∷ 1 ∷ []
