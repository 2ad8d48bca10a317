use borrow.Author.Rules.{rules}
use mathlib.Core.Path.{◌≡◌, ◌∙◌}
use native.Mathlib.Omega.{arith}
use lib.ListN.{length}
use Rattle.std.specs.List.{sum_by}
use Rattle.laws.specs.Sums.{sum}
use Rattle.laws.proofs.Sums.{sum_under}
use Rattle.laws.specs.Lists.{at}
use Rattle.matching.proofs.Walks.{list_sum}
use Rattle.matching.proofs.sum_of.Goals as goal

pub returns : goal.returns
returns c = let e : c.sum.result ≡ sum_by (λ x. x) c.args.numbers.now = search rules in let f : c.sum.result ≡ sum (length c.args.numbers.now) (at c.args.numbers.now) = e ∙ list_sum c.args.numbers.now in (f, rw f (sum_under _ _ _ (λ i l. omega (arith, c.type_inv.numbers i))))
