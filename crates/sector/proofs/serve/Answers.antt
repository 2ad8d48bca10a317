use Rattle.sector.proofs.Lists.{due_listed, pairable}
use Rattle.sector.proofs.serve.Goals as goal

pub serve_due-requires-clause-pairable : goal.serve_due-requires-clause-pairable
serve_due-requires-clause-pairable c =
    pairable _ _ _ _ (due_listed c.requires.ready c.requires.due_listed) c.blank-scores.ensures c.blank-pairing.ensures c.blank-prices.ensures c.requires.room.for_discounts
