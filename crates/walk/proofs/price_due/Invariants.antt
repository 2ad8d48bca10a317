use lib.ListN.{length}
use Rattle.laws.specs.Places.{Placed}
use Rattle.laws.specs.Lists.{at}
use Rattle.walk.proofs.price_due.Given as goal

abbrev pub invariant-loop-k : goal.invariant-loop-k
invariant-loop-k l = Placed 0 l.due (at l.track_prices) l.initial.prices l.prices (length l.yielded)
