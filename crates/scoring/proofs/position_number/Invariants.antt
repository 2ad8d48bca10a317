use Rattle.scoring.specs.Position.{position_most, reaches}
use Rattle.scoring.proofs.Largest.{Among}
use Rattle.scoring.proofs.position_number.Given as goal

abbrev pub invariant-loop-width : goal.invariant-loop-width
invariant-loop-width l =
    Among (reaches l.dr l.da l.range_sigma l.azimuth_sigma) position_most l.low l.width

abbrev pub decreases-loop-width : goal.decreases-loop-width
decreases-loop-width l = l.width
