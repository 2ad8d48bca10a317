-- The score of a pair: seven octal digits (01, 'A pair'; 002, radar-only).
use Rattle.std.specs.Prelude.{ℕ, ◌+◌, ◌*◌, ◌^◌, ◌≤◌, ◌<◌, Bool, not, cond, ◌&&◌, leb, ltb, eqb, nat_abs, Option, Some, None}
use Rattle.numbers.specs.Scales.{range_most, range_speed_most}
use Rattle.numbers.specs.Whole.{remainder, circular_distance}
use Rattle.records.specs.declared.Track.{Track}
use Rattle.records.specs.declared.Report.{Report}
use Rattle.records.specs.declared.Site.{Site}
use Rattle.records.specs.Fields.{high_circle, low_circle, growing_from, mature_from, sure_confidence, sure_quality, is_weak}
use Rattle.scoring.specs.Zone.{range_off, azimuth_off, zone_of}
use Rattle.scoring.specs.Position.{position_of}

-- what the code counts on, of a track and a report whose fields keep 01's rules
pub record Scorable (t : Track) (p : Report) : Type 0 where
  pub predicted : t.range ≤ range_most
  pub reported : p.range ≤ range_most
  pub speed : nat_abs t.range_speed ≤ range_speed_most
  pub high : p.high < high_circle
  pub low : p.low < low_circle

-- S of a pair
unfoldable pub pair_position : Track → Report → Site → ℕ
pair_position t p site = position_of (range_off t p) (azimuth_off t p) site.range_sigma site.azimuth_sigma

-- 0 if so, else 1
abbrev pub one_unless : Bool → ℕ
one_unless b = cond b 0 1

abbrev pub doppler_tolerance : ℕ
doppler_tolerance = 12

-- range speed mod the circle, taken non-negative, lies within 12 of the report's Doppler, the short way round
unfoldable pub doppler_near : ℕ → Track → ℕ → Bool
doppler_near circle t doppler = leb (circular_distance circle (remainder t.range_speed circle) doppler) doppler_tolerance

-- it disagrees if azimuth-degrade is 1, confidence is under 3 or quality under 2: the report is weak; otherwise both must lie near
unfoldable pub doppler_agrees : Track → Report → Bool
doppler_agrees t p = not (is_weak p) && (doppler_near high_circle t p.high && doppler_near low_circle t p.low)

-- agree 0, else 1
unfoldable pub doppler_of : Track → Report → ℕ
doppler_of t p = one_unless (doppler_agrees t p)

-- over 7 updates 0, 4 to 7 gives 2, 3 or fewer 4
abbrev pub growing_age : ℕ
growing_age = 2

abbrev pub new_age : ℕ
new_age = 4

unfoldable pub updates_age : ℕ → ℕ
updates_age updates = cond (ltb updates growing_from) new_age (cond (ltb updates mature_from) growing_age 0)

-- plus 1 if misses is not 0
unfoldable pub age_of : Track → ℕ
age_of t = updates_age t.updates + one_unless (eqb t.misses 0)

-- confidence 3 or more in both 0, report alone 1, track alone 2, neither 3
unfoldable pub confidence_trust : Track → Report → ℕ
confidence_trust t p =
    cond (sure_confidence p.confidence) (cond (sure_confidence t.confidence) 0 1) (cond (sure_confidence t.confidence) 2 3)

-- quality 2 or more in both 0, one 1, neither 2
unfoldable pub quality_trust : Track → Report → ℕ
quality_trust t p = one_unless (sure_quality p.quality) + one_unless (sure_quality t.quality)

unfoldable pub trust_of : Track → Report → ℕ
trust_of t p = confidence_trust t p + quality_trust t p

-- what the digits are worth: zone, position (three digits), Doppler, age, trust
abbrev pub zone_worth : ℕ
zone_worth = 262144

abbrev pub position_worth : ℕ
position_worth = 512

abbrev pub doppler_worth : ℕ
doppler_worth = 64

abbrev pub age_worth : ℕ
age_worth = 8

abbrev pub digits_worth : (zone position doppler age trust : ℕ) → ℕ
digits_worth zone position doppler age trust = zone * zone_worth + position * position_worth + doppler * doppler_worth + age * age_worth + trust

-- seven octal digits say less than this
abbrev pub digits_end : ℕ
digits_end = 8 ^ 7

-- the worth of an admissible pair
unfoldable pub worth_of : Track → Report → Site → ℕ
worth_of t p site = digits_worth (zone_of t p site) (pair_position t p site) (doppler_of t p) (age_of t) (trust_of t p)

-- none for a pair that is not admissible
unfoldable pub score_of : Track → Report → Site → Option ℕ
score_of t p site = cond (eqb (zone_of t p site) 0) None (Some (worth_of t p site))
