-- Every way to pair the tracks from i on. The measure: a track more outweighs every report.
use Rattle.std.proofs.Common.{suc, ◌+◌, ◌-◌, ◌*◌}
use Rattle.matching.specs.Pairing.{most_reports}
use Rattle.sheets.proofs.+least_total.Given as goal

abbrev pub decreases-least_total : goal.decreases-least_total
decreases-least_total l = (l.case.tracks - l.i) * suc most_reports + (l.case.reports - l.j)
