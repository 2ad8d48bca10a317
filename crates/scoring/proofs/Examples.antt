-- The inner zone can reach beyond the outer, and such a pair is inner: sigmas 255, a track of one update, dr 821. By computation.
use mathlib.Core.Path.{◌≡◌, refl}
use mathlib.Core.Bool.{false}
use lib.IntN.{pos}
use Rattle.numbers.specs.Azimuth.{signed16, azimuth_difference}
use Rattle.records.specs.declared.Track.{Track}
use Rattle.records.specs.declared.Report.{Report}
use Rattle.records.specs.declared.Site.{Site}
use Rattle.scoring.specs.Zone.{range_off, azimuth_off, within_sigmas, azimuth_reach, within_reach, within_outer, inner_digit, zone_of}

abbrev pub coarse : Site
coarse = record { range_sigma = 255; azimuth_sigma = 255 }

abbrev pub young : Track
young = record {
  range = 10821;
  azimuth = 1000;
  range_speed = pos 0;
  azimuth_speed = pos 0;
  updates = 1;
  misses = 0;
  confidence = 7;
  quality = 3;
  wait = 0;
  mark = 1;
}

abbrev pub far : Report
far = record {
  range = 10000;
  azimuth = 1000;
  confidence = 7;
  quality = 3;
  azimuth_degrade = 0;
  high = 0;
  low = 0;
}

pub beyond_outer : within_outer young far coarse ≡ false
unfolding within_outer within_reach range_off azimuth_off azimuth_difference signed16 azimuth_reach
beyond_outer = refl

pub beyond_inner : zone_of young far coarse ≡ inner_digit
unfolding zone_of within_sigmas range_off azimuth_off azimuth_difference signed16
beyond_inner = refl
