use Rattle.intake.specs.Refusals.{input_in}
use Rattle.scoresheet.proofs.Rows.{RowsFilled}
use Rattle.scoresheet.proofs.fill_rows.Given as goal

abbrev pub invariant-loop-rank : goal.invariant-loop-rank
invariant-loop-rank l = RowsFilled (input_in l.table l.call) l.due l.sheet l.initial.sheet l.rank
