-- The starred examples of 01 hold, by computation.
use mathlib.Core.Path.{◌≡◌, refl}
use mathlib.Core.Bool.{true}
use borrow.Author.Tests.{eqb-true}
use Rattle.laws.specs.Sums.{sum}
use Rattle.laws.specs.Tests.{each, holds}
use Rattle.laws.proofs.Tests.{holds_each}
use Rattle.numbers.specs.Whole.{rounded, remainder, circular_distance}
use Rattle.numbers.specs.Azimuth.{signed16, azimuth_difference}
use Rattle.numbers.specs.Sectors.{calls_ahead}
use Rattle.records.specs.Fields.{sure_confidence, sure_quality, is_weak}
use Rattle.scoring.specs.Zone.{range_off, azimuth_off, within_sigmas, within_outer, zone_of}
use Rattle.scoring.specs.Position.{reaches, largest, position_of}
use Rattle.scoring.specs.Score.{pair_position, doppler_near, doppler_agrees, doppler_of, updates_age, age_of, confidence_trust, quality_trust, trust_of, worth_of, score_of}
use Rattle.settling.specs.Settle.{speed_correction}
use Rattle.laws.specs.Lists.{at}
use Rattle.matching.specs.Pairing.{total, Best, sheet_of}
use Rattle.matching.specs.Answer.{sizes_ok, cells_ok, pairing_ok, numbers_ok, scores_ok, totals_ok, sheet_refusal, check_answer}
use Rattle.matching.proofs.Theorems.{zero_is_best}
use Rattle.examples.specs.Starred.{cells, crossed, prices, discounts, starred}

pub all_starred : holds starred ≡ true
unfolding starred holds azimuth_difference signed16 position_of largest reaches score_of zone_of within_sigmas within_outer range_off azimuth_off worth_of pair_position doppler_of doppler_agrees is_weak sure_confidence sure_quality doppler_near circular_distance remainder age_of updates_age trust_of confidence_trust quality_trust speed_correction rounded check_answer sheet_refusal sizes_ok cells_ok pairing_ok numbers_ok scores_ok totals_ok each total sum calls_ahead
all_starred = refl

-- the total of 32 is the best: the check accepts its pairing
pub crossed_best : Best (sheet_of 2 2 cells) (at crossed)
unfolding starred
crossed_best =
    zero_is_best 2 2 cells crossed prices discounts (eqb-true _ _ (holds_each starred all_starred).1.1.1.1.1.1.1.1.1.1.1.1.0)
