use mathlib.Core.Path.{◌≡◌, refl, ◌∙◌}
use mathlib.Core.List.{map}
use borrow.Author.Rules.{rules}
use Rattle.std.proofs.lemmas.Simd.{splat_is_map}
use Rattle.walk.specs.Table.{no_price}
use Rattle.walk.proofs.price_slots.Goals as goal

pub returns : goal.returns
returns c =
    let cleared : c.fill.new.self ≡ map no_price c.args.prices.now = c.fill.ensures.after (search rules) ∙ splat_is_map _ _ 0 refl in
    rw cleared at c.price_due.ensures
