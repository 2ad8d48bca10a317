-- The zone of a pair (01, 'A pair'): dr and da are predicted minus reported, range and azimuth.
use Rattle.std.specs.Prelude.{ℕ, ◌+◌, ◌*◌, ◌/◌, min, max, Bool, cond, ◌&&◌, leb, ltb, eqb, nat_abs, Option, Some, None}
use Rattle.numbers.specs.Scales.{range_speed_most, azimuth_speed_most}
use Rattle.records.specs.declared.Track.{Track}
use Rattle.records.specs.declared.Report.{Report}
use Rattle.records.specs.declared.Site.{Site}
use Rattle.records.specs.Fields.{updates_at_start, range_d, azimuth_d}

-- |dr| and |da|
unfoldable pub range_off : Track → Report → ℕ
range_off t p = nat_abs (range_d t p)

unfoldable pub azimuth_off : Track → Report → ℕ
azimuth_off t p = nat_abs (azimuth_d t p)

-- |dr| at most so many range sigmas, and |da| at most so many azimuth sigmas
unfoldable pub within_sigmas : ℕ → Track → Report → Site → Bool
within_sigmas n t p site = leb (range_off t p) (n * site.range_sigma) && leb (azimuth_off t p) (n * site.azimuth_sigma)

abbrev pub inner_sigmas : ℕ
inner_sigmas = 4

-- 8 + 4 x misses: those of a track with no misses, and what each miss adds
abbrev pub steady_sigmas : ℕ
steady_sigmas = 8

abbrev pub miss_sigmas : ℕ
miss_sigmas = 4

abbrev pub outer_sigmas : Track → ℕ
outer_sigmas t = steady_sigmas + miss_sigmas * t.misses

-- how far 600 knots reach across in a scan, in azimuth units at range 1
abbrev pub cross_reach : ℕ
cross_reach = 8552910

-- the smaller of 8,192 and 8,552,910 / (predicted range, or 1 if that is 0), rounded down
unfoldable pub azimuth_reach : ℕ → ℕ
azimuth_reach range = min azimuth_speed_most (cross_reach / max range 1)

-- updates 1: |dr| at most 820 and |da| at most its reach
unfoldable pub within_reach : Track → Report → Bool
within_reach t p = leb (range_off t p) range_speed_most && leb (azimuth_off t p) (azimuth_reach t.range)

unfoldable pub within_outer : Track → Report → Site → Bool
within_outer t p site = cond (ltb updates_at_start t.updates) (within_sigmas (outer_sigmas t) t p site) (within_reach t p)

-- the zone's digit: inner (tested first) 3, outer 6; 0 for a pair that is not admissible
abbrev pub inner_digit : ℕ
inner_digit = 3

abbrev pub outer_digit : ℕ
outer_digit = 6

unfoldable pub zone_of : Track → Report → Site → ℕ
zone_of t p site = cond (within_sigmas inner_sigmas t p site) inner_digit (cond (within_outer t p site) outer_digit 0)

-- the digit of an admissible pair alone
unfoldable pub zone_digit : Track → Report → Site → Option ℕ
zone_digit t p site = cond (eqb (zone_of t p site) 0) None (Some (zone_of t p site))
