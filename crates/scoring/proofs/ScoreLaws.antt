-- Laws of the zone, of each digit, and of the score.
use Prim.Native.Nat.{ℕ, ◌+◌, ◌*◌, ◌≤◌, ◌<◌}
use mathlib.Core.Path.{◌≡◌, refl}
use mathlib.Core.Bool.{Bool, true, false, cond}
use native.Mathlib.Omega.{arith}
use lib.Dec.{ltb, eqb}
use Rattle.records.specs.declared.Track.{Track}
use Rattle.records.specs.declared.Report.{Report}
use Rattle.records.specs.declared.Site.{Site}
use Rattle.records.specs.Fields.{growing_from, mature_from, sure_confidence, sure_quality}
use Rattle.std.specs.Prelude.{Some, None}
use Rattle.scoring.specs.Zone.{range_off, azimuth_off, within_sigmas, inner_sigmas, within_outer, inner_digit, outer_digit, zone_of}
use Rattle.scoring.specs.Score.{pair_position, one_unless, doppler_agrees, doppler_of, new_age, growing_age, updates_age, age_of, confidence_trust, quality_trust, trust_of, digits_end, worth_of, score_of}
use Rattle.scoring.proofs.PositionLaws.{position_most_lem}

-- a pair in the inner zone is inner, even where a track of one update does not reach so far
pub inner_first : (t : Track) (p : Report) (site : Site) → within_sigmas inner_sigmas t p site ≡ true → zone_of t p site ≡ inner_digit
unfolding zone_of
inner_first t p site e = rw e

-- ---- how large each digit is

pub zone_most : (t : Track) (p : Report) (site : Site) → zone_of t p site ≤ outer_digit
unfolding zone_of
zone_most t p site = go (within_sigmas inner_sigmas t p site) (within_outer t p site)
  where
    go : (a b : Bool) → cond a inner_digit (cond b outer_digit 0) ≤ outer_digit
    go true b = omega arith
    go false true = omega arith
    go false false = omega arith

pub one_unless_most : (b : Bool) → one_unless b ≤ 1
one_unless_most true = omega arith
one_unless_most false = omega arith

pub updates_age_most : (updates : ℕ) → updates_age updates ≤ new_age
unfolding updates_age
updates_age_most updates = go (ltb updates growing_from) (ltb updates mature_from)
  where
    go : (a b : Bool) → cond a new_age (cond b growing_age 0) ≤ new_age
    go true b = omega arith
    go false true = omega arith
    go false false = omega arith

-- two where the report's confidence is low, one more where the track's is
pub confidence_form : (t : Track) (p : Report) → 2 * one_unless (sure_confidence p.confidence) + one_unless (sure_confidence t.confidence) ≡ confidence_trust t p
unfolding confidence_trust
confidence_form t p = go (sure_confidence p.confidence) (sure_confidence t.confidence)
  where
    go : (a b : Bool) → 2 * one_unless a + one_unless b ≡ cond a (cond b 0 1) (cond b 2 3)
    go true true = refl
    go true false = refl
    go false true = refl
    go false false = refl

pub confidence_most_lem : (t : Track) (p : Report) → confidence_trust t p ≤ 3
confidence_most_lem t p =
    omega (arith, confidence_form t p, one_unless_most (sure_confidence p.confidence), one_unless_most (sure_confidence t.confidence))

pub quality_most_lem : (t : Track) (p : Report) → quality_trust t p ≤ 2
unfolding quality_trust
quality_most_lem t p = omega (arith, one_unless_most (sure_quality p.quality), one_unless_most (sure_quality t.quality))

-- ---- the score

pub worth_below : (t : Track) (p : Report) (site : Site) → worth_of t p site < digits_end
unfolding worth_of pair_position doppler_of age_of trust_of
worth_below t p site =
    omega (arith, zone_most t p site, position_most_lem (range_off t p) (azimuth_off t p) site.range_sigma site.azimuth_sigma, one_unless_most (doppler_agrees t p), updates_age_most t.updates, one_unless_most (eqb t.misses 0), confidence_most_lem t p, quality_most_lem t p)

-- every score is below 2,097,152
pub score_below : (t : Track) (p : Report) (site : Site) (x : ℕ) → score_of t p site ≡ Some x → x < digits_end
unfolding score_of
score_below t p site x e = go (eqb (zone_of t p site) 0) e
  where
    go : (b : Bool) → cond b None (Some (worth_of t p site)) ≡ Some x → x < digits_end
    go true e = absurd (never e)
      where
        never : None ≡ Some x → ⊥
        never e = let z : ◌≡◌ {A = ℕ} 0 1 = cc in omega arith
    go false e = let same : worth_of t p site ≡ x = cc in omega (arith, worth_below t p site)
