use mathlib.Core.Path.{◌≡◌, ◌∙◌}
use borrow.Author.Rules.{rules}
use lib.Dec.{eqb}
use Rattle.std.proofs.iter.runs.Made.{chains}
use Rattle.std.specs.List.{count_by}
use Rattle.fates.specs.Fates.{count_of}
use Rattle.fates.proofs.Telling.{eqb_sym, count_by_count}
use Rattle.fates.proofs.count_fate.Goals as goal

pub returns : goal.returns
unfolding count_of
returns c =
    let counted : c.sum.result ≡ count_by (λ told. eqb told c.args.fate) c.args.fates.now = search (rules, chains) in
    counted ∙ count_by_count _ _ (λ told. eqb_sym told c.args.fate) c.args.fates.now
