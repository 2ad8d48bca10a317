use Rattle.passes.proofs.Keys.{best_one}
use Rattle.passes.proofs.row_best.Goals as goal

pub returns : goal.returns
returns c =
    (c.if-score-ge-SCORE_END.false, best_one _ c.requires.0 c.requires.1 _ c.row_key-best.ensures c.if-score-ge-SCORE_END.false)
