use Rattle.glider.proofs.Story.{call_keeps_the_glider}
use Rattle.glider.proofs.ours.Goals as goal

pub returns : goal.returns
returns c = call_keeps_the_glider _ _ _ _ (rw c.sheet-sheet.ensures at c.pair_sheet.ensures) c.pair_sheet.auto.pairing
