use mathlib.Core.List.{[]}
use native.Mathlib.Omega.{arith}
use Rattle.laws.proofs.Filled.{map_filled_more}
use Rattle.scoresheet.specs.Cells.{pair_cell}
use Rattle.scoresheet.proofs.fill_row.Goals as goal

pub loop-j-preserved : goal.loop-j-preserved
unfolding pair_cell
loop-j-preserved c =
    map_filled_more _ [] c.loop-j.invariant c.loop-j-test.true (omega (arith, c.requires.room)) (cc)
