-- 01, 'Examples on each side': the starred ones, in 01's order, each a test that 01's definitions give 01's number. Numbers are
-- written out as 01 has them, so that the table says what it tests.
use Rattle.std.specs.Prelude.{ℕ, Bool, true, false, List, [], ◌∷◌, eqb, ℤ, pos, neg_ℤ, nat_abs, ◌-ℤ◌, Option, Some, None}
use Rattle.numbers.specs.Azimuth.{azimuth_difference}
use Rattle.numbers.specs.Sectors.{calls_ahead}
use Rattle.records.specs.declared.Track.{Track}
use Rattle.records.specs.declared.Report.{Report}
use Rattle.records.specs.declared.Site.{Site}
use Rattle.records.specs.Fields.{held, confidence_most, quality_most}
use Rattle.scoring.specs.Position.{position_of}
use Rattle.scoring.specs.Score.{doppler_of, score_of}
use Rattle.settling.specs.Settle.{speed_correction}
use Rattle.laws.specs.Lists.{at}
use Rattle.matching.specs.Pairing.{none, total, sheet_of}
use Rattle.matching.specs.Answer.{check_answer}

-- ---- what the tests compare

abbrev pub same : ℤ → ℤ → Bool
same a b = eqb (nat_abs (a -ℤ b)) 0

abbrev pub scores : ℕ → Option ℕ → Bool
scores n None = false
scores n (Some x) = eqb x n

abbrev pub not_admissible : Option ℕ → Bool
not_admissible None = true
not_admissible (Some x) = false

-- ---- 'Sigmas 16.'

abbrev pub sigma : ℕ
sigma = 16

abbrev pub site : Site
site = record { range_sigma = sigma; azimuth_sigma = sigma }

-- ---- a track with 8 updates and no misses, and a report: both of the best confidence and quality, so that their trust is 0.
-- The report lies at range 0 and azimuth 0, so that dr and da are the track's range and azimuth

abbrev pub track : (dr da speed : ℕ) → Track
track dr da speed = record {
  range = dr;
  azimuth = da;
  range_speed = pos speed;
  azimuth_speed = pos 0;
  updates = 8;
  misses = 0;
  confidence = confidence_most;
  quality = quality_most;
  wait = 0;
  mark = held;
}

abbrev pub report : (high low : ℕ) → Report
report high low = record {
  range = 0;
  azimuth = 0;
  confidence = confidence_most;
  quality = quality_most;
  azimuth_degrade = 0;
  high = high;
  low = low;
}

-- ---- two tracks and two reports

abbrev pub cells : List ℕ
cells = 10 ∷ 20 ∷ 12 ∷ none ∷ []

-- track 0 with report 1, track 1 with report 0
abbrev pub crossed : List ℕ
crossed = 1 ∷ 0 ∷ []

abbrev pub prices : List ℕ
prices = 20 ∷ 22 ∷ []

abbrev pub discounts : List ℕ
discounts = 10 ∷ 0 ∷ []

-- ---- the table

unfoldable pub starred : List Bool
starred =
    -- 0 - 65,535 = 1
    same (azimuth_difference 0 65535) (pos 1)
    -- 32,768 - 0 = -32,768
    ∷ same (azimuth_difference 32768 0) (neg_ℤ (pos 32768))
    -- S: (0,0) 0; (2,0) 1; (48,64) 20; (2041,0) 510; (2046,0) 511
    ∷ eqb (position_of 0 0 sigma sigma) 0
    ∷ eqb (position_of 2 0 sigma sigma) 1
    ∷ eqb (position_of 48 64 sigma sigma) 20
    ∷ eqb (position_of 2041 0 sigma sigma) 510
    ∷ eqb (position_of 2046 0 sigma sigma) 511
    -- 8 updates, no misses, da 0: 129 not admissible
    ∷ not_admissible (score_of (track 129 0 0) (report 0 0) site)
    -- (48,64), Doppler agrees, 8 updates, trust 0: 796,672
    ∷ scores 796672 (score_of (track 48 64 0) (report 0 0) site)
    -- speed 5, low 5: high 172 does not agree
    ∷ eqb (doppler_of (track 0 0 5) (report 172 5)) 1
    -- b 3, D -5, f 1: -2
    ∷ same (speed_correction (neg_ℤ (pos 5)) 3 1) (neg_ℤ (pos 2))
    -- track 0 scores 10 and 20, track 1 scores 12 and none: best total 32; prices 20, 22 with discounts 10, 0 pass the check
    ∷ eqb (total (sheet_of 2 2 cells) (at crossed)) 32
    ∷ eqb (check_answer 2 2 cells crossed prices discounts) 0
    -- one track, no report: price 268,435,456
    ∷ eqb (check_answer 1 0 [] (none ∷ []) (268435456 ∷ []) []) 0
    -- served in sector 0, predicted sector 15: j 47; 16: 16; 31: 31; 0: 32
    ∷ eqb (calls_ahead 0 15) 47
    ∷ eqb (calls_ahead 0 16) 16
    ∷ eqb (calls_ahead 0 31) 31
    ∷ eqb (calls_ahead 0 0) 32
    ∷ []
