use Rattle.paths.proofs.Raised.{finishable, inserted, reached}
use Rattle.paths.proofs.insert.Goals as goal

pub finish-requires : goal.finish-requires
finish-requires c = finishable c.requires c.search-ending.ensures.1 c.raise_prices.ensures c.raise_discounts.ensures

pub returns : goal.returns
returns c =
    let R = c.requires in
    let E = c.search-ending.ensures in
    let F = c.finish.ensures in (
      (F.0, (E.0, record { labels_long = E.1.labels_long; via_long = E.1.via_long; closings_long = E.1.closings_long })),
      (
        rw (F.1.1.0, F.1.1.1) (inserted R E.1 c.raise_prices.ensures c.raise_discounts.ensures F.1.0),
        rw F.1.1.0 (reached R E.1 c.raise_prices.ensures c.raise_discounts.ensures F.1.0),
      ),
    )
