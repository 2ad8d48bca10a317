use mathlib.Core.Path.{refl}
use Rattle.matching.specs.Pairing.{left_out}
use Rattle.paths.proofs.Growth.{AllAre, plant, front_none}
use Rattle.paths.proofs.set_out.Goals as goal

pub returns : goal.returns
returns c =
    let R = c.requires in
    let far_off : AllAre c.args.tree.now.labels.now c.fill.new.self left_out = (c.fill.ensures.len, λ k h. c.fill.ensures.clones k 0 h refl) in
    let all_open : AllAre c.args.tree.now.closings.now c.fill-2.new.self 0 = (c.fill-2.ensures.len, λ k h. c.fill-2.ensures.clones k 0 h refl) in (
      c.offer_from.ensures.0,
      record {
        good = R.good;
        tree = rw c.offer_from.ensures.1.1 (plant R far_off all_open c.offer_from.ensures.1.0);
        behind = front_none _ _;
        nearest = c.nearest-next.ensures;
      },
    )
