use Rattle.std.proofs.Common.{rules}
use Rattle.engine.proofs.Shown.{certified}
use Rattle.engine.proofs.pair_cells.Goals as goal

pub returns : goal.returns
returns c = certified c.assign.ensures.1 (search rules) (search rules) (search rules)
