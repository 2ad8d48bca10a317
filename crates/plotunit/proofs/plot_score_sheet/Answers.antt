use native.Mathlib.Omega.{arith}
use Rattle.plotunit.proofs.Telling.{small, sheet_refused, sheet_done}
use Rattle.plotunit.proofs.plot_score_sheet.Goals as goal

pub overflow_cast-size : goal.overflow_cast-size
overflow_cast-size c = let few = small _ _ c.score_sheet-answer.ensures.answer c.in-Ok.is in omega (arith, few.0, few.1)

pub overflow_cast-size-in-Ok : goal.overflow_cast-size-in-Ok
overflow_cast-size-in-Ok c = let few = small _ _ c.score_sheet-answer.ensures.answer c.in-Ok.is in omega (arith, few.0, few.1)

pub returns-in-Err : goal.returns-in-Err
returns-in-Err c = rw c.number.ensures (sheet_refused c.score_sheet-answer.ensures.answer c.score_sheet-answer.ensures.sheet_after c.in-Err.is)

pub returns-in-Ok : goal.returns-in-Ok
returns-in-Ok c = sheet_done c.score_sheet-answer.ensures.answer c.score_sheet-answer.ensures.sheet_after c.in-Ok.is
