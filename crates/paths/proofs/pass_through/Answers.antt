use mathlib.Core.Path.{refl}
use mathlib.Core.Logic.{inl, inr}
use Rattle.paths.proofs.Growth.{keys, passed_on, front_more, fit_row}
use Rattle.paths.proofs.pass_through.Goals as goal
use Rattle.paths.proofs.pass_through.Goals.{then-cost-s, else-cost-s}

pub offer_from-requires : goal.offer_from-requires
offer_from-requires c = fit_row c.requires.standing c.requires.next_taken c.open_from-front.ensures

pub nearest-next-requires : goal.nearest-next-requires
nearest-next-requires c =
    rw c.offer_from.ensures.1.1 (keys {leaver = c.if-cost-s.leaver} c.requires.standing.good (passed_on c.requires.standing c.requires.next_taken c.min-leaving.ensures (elim c.if-cost-s.branch [ then-cost-s w ↦ inl (w.if-cost-s.true, w.leaver-is) | else-cost-s w ↦ inr (w.if-cost-s.false, w.leaver-is) ]) c.offer_from.ensures.1.0) (front_more c.requires.standing c.requires.next_taken c.open_from-front.ensures))

pub returns : goal.returns
returns c = (
  c.offer_from.ensures.0,
  (
    record {
      good = c.requires.standing.good;
      tree = rw c.offer_from.ensures.1.1 (passed_on c.requires.standing c.requires.next_taken c.min-leaving.ensures (elim c.if-cost-s.branch [ then-cost-s w ↦ inl (w.if-cost-s.true, w.leaver-is) | else-cost-s w ↦ inr (w.if-cost-s.false, w.leaver-is) ]) c.offer_from.ensures.1.0);
      behind = rw c.offer_from.ensures.1.1 (front_more c.requires.standing c.requires.next_taken c.open_from-front.ensures);
      nearest = c.nearest-next.ensures;
    },
    refl,
  ),
)
