use Rattle.laws.proofs.Filled.{MapFilled}
use Rattle.scoresheet.specs.Cells.{pair_cell}
use Rattle.scoresheet.proofs.fill_row.Given as goal

abbrev pub invariant-loop-j : goal.invariant-loop-j
invariant-loop-j l = MapFilled (pair_cell l.t l.site) l.batch l.row l.initial.row l.j
