use Rattle.sector.proofs.Serving.{served_with}
use Rattle.sector.proofs.serve_due.Goals as goal

pub returns-clause-served : goal.returns-clause-served
returns-clause-served c = served_with _ _ _ _ _ _ _ c.pair_up.ensures c.settle.ensures.settled
