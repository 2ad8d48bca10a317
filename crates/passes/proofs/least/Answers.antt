use Rattle.std.proofs.Common.{rules, ◌≡◌, ℕ, ◌+◌, ◌<◌, length, ◌⊎◌, inr}
use Rattle.passes.proofs.Keys.{met_by_min}
use Rattle.laws.specs.Lists.{at}
use Rattle.passes.proofs.least.Goals as goal

pub loop-j-preserved : goal.loop-j-preserved
loop-j-preserved c = let v = c.loop-j.invariant in
    (search rules, (search rules, met_by_min (λ r. (r ≡ c.args.cap) ⊎ ((k : ℕ) × ((k < length c.args.labels.now) × (at c.args.labels.now k + at c.args.closings.now k ≡ r)))) _ _ _ c.min-best.ensures v.1.1 (inr (c.loop-j.j, search rules))))
