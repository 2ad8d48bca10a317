use mathlib.Core.Path.{refl, sym, ◌∙◌}
use Rattle.std.proofs.lemmas.Result.{err_from_is_err_and}
use Rattle.matching.proofs.Walks.{numbers_tested}
use Rattle.matching.proofs.Facts.{tests_left, last_test}
use Rattle.matching.proofs.judge.Goals as goal

pub returns-in_err-refuse_unless : goal.returns-in_err-refuse_unless
returns-in_err-refuse_unless c =
    let p = err_from_is_err_and c.from_residual.result c.from_residual.ensures.1 in
    rw (
      p.1,
      p.2,
      c.in_err-refuse_unless.ensures.1,
      tests_left _ _ _ _ _ _ c.requires.sizes c.requires.tested,
      sym c.pairing_ok.ensures ∙ c.in_err-refuse_unless.ensures.0,
    ) refl

pub returns-in_err-refuse_unless-2 : goal.returns-in_err-refuse_unless-2
returns-in_err-refuse_unless-2 c =
    let p = err_from_is_err_and c.from_residual-in_err-refuse_unless-2.result c.from_residual-in_err-refuse_unless-2.ensures.1 in
    rw (
      p.1,
      p.2,
      c.in_err-refuse_unless-2.ensures.1,
      tests_left _ _ _ _ _ _ c.requires.sizes c.requires.tested,
      sym c.pairing_ok.ensures ∙ c.in_ok-refuse_unless.ensures,
      sym (numbers_tested _ c.args.prices.now _ c.requires.exact.0 c.numbers_ok.ensures) ∙ c.in_err-refuse_unless-2.ensures.0,
    ) refl

pub returns-in_err-refuse_unless-3 : goal.returns-in_err-refuse_unless-3
returns-in_err-refuse_unless-3 c =
    let p = err_from_is_err_and c.from_residual-in_err-refuse_unless-3.result c.from_residual-in_err-refuse_unless-3.ensures.1 in
    rw (
      p.1,
      p.2,
      c.in_err-refuse_unless-3.ensures.1,
      tests_left _ _ _ _ _ _ c.requires.sizes c.requires.tested,
      sym c.pairing_ok.ensures ∙ c.in_ok-refuse_unless.ensures,
      sym (numbers_tested _ c.args.prices.now _ c.requires.exact.0 c.numbers_ok.ensures) ∙ c.in_ok-refuse_unless-2.ensures,
      sym (numbers_tested _ c.args.discounts.now _ c.requires.exact.1 c.numbers_ok-2.ensures) ∙ c.in_err-refuse_unless-3.ensures.0,
    ) refl

pub returns-in_err-refuse_unless-4 : goal.returns-in_err-refuse_unless-4
returns-in_err-refuse_unless-4 c =
    let p = err_from_is_err_and c.from_residual-in_err-refuse_unless-4.result c.from_residual-in_err-refuse_unless-4.ensures.1 in
    rw (
      p.1,
      p.2,
      c.in_err-refuse_unless-4.ensures.1,
      tests_left _ _ _ _ _ _ c.requires.sizes c.requires.tested,
      sym c.pairing_ok.ensures ∙ c.in_ok-refuse_unless.ensures,
      sym (numbers_tested _ c.args.prices.now _ c.requires.exact.0 c.numbers_ok.ensures) ∙ c.in_ok-refuse_unless-2.ensures,
      sym (numbers_tested _ c.args.discounts.now _ c.requires.exact.1 c.numbers_ok-2.ensures) ∙ c.in_ok-refuse_unless-3.ensures,
      sym (rw c.requires.exact.0 at c.scores_ok.ensures) ∙ c.in_err-refuse_unless-4.ensures.0,
    ) refl

pub returns : goal.returns
returns c =
    rw (
      tests_left _ _ _ _ _ _ c.requires.sizes c.requires.tested,
      sym c.pairing_ok.ensures ∙ c.in_ok-refuse_unless.ensures,
      sym (numbers_tested _ c.args.prices.now _ c.requires.exact.0 c.numbers_ok.ensures) ∙ c.in_ok-refuse_unless-2.ensures,
      sym (numbers_tested _ c.args.discounts.now _ c.requires.exact.1 c.numbers_ok-2.ensures) ∙ c.in_ok-refuse_unless-3.ensures,
      sym (rw c.requires.exact.0 at c.scores_ok.ensures) ∙ c.in_ok-refuse_unless-4.ensures,
      sym c.totals_ok.ensures,
    ) (last_test c.refuse_unless-5.result c.totals_ok.result _ c.refuse_unless-5.ensures)
