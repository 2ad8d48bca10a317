use Rattle.std.proofs.Common.{rules, ◌≡◌, ℕ, ◌<◌, length, ◌⊎◌, inr}
use Rattle.passes.proofs.Keys.{met_by_min}
use Rattle.passes.specs.Cells.{last_key, key}
use Rattle.laws.specs.Lists.{at}
use Rattle.passes.proofs.row_key.Goals as goal

pub loop-j-preserved : goal.loop-j-preserved
loop-j-preserved c =
    (search rules, met_by_min (λ r. (r ≡ last_key) ⊎ ((k : ℕ) × ((k < length c.args.cells.now) × (r ≡ key (at c.args.cells.now k) k)))) _ _ _ c.min-best.ensures c.loop-j.invariant.1 (inr (c.loop-j.j, search rules)))
