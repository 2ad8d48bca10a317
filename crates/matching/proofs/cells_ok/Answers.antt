use mathlib.Core.Path.{◌≡◌, ◌∙◌}
use mathlib.Core.Bool.{true, ◌&&◌}
use native.Mathlib.Omega.{arith}
use Rattle.std.proofs.lemmas.Grind.{common_steps}
use Rattle.std.specs.List.{fold}
use Rattle.matching.specs.Answer.{cell_ok, cells_ok}
use Rattle.matching.proofs.Walks.{fold_each}
use Rattle.matching.proofs.cells_ok.Goals as goal

pub returns : goal.returns
unfolding cells_ok
returns c = let e : c.fold.result ≡ fold (λ ok x. ok && cell_ok x) true c.args.cells.now = grind (arith, common_steps) in e ∙ fold_each cell_ok c.args.cells.now
