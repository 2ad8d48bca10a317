use Prim.Native.Nat.{ℕ}
use mathlib.Core.List.{List, ◌++◌}
use lib.ListN.{length, take, drop}
use mathlib.Core.Path.{ap}
use Rattle.walk.proofs.Walks.{due_settles, due_priced, all_settled, all_priced}
use lib.Seq.{length-take-le}
use Rattle.walk.proofs.settle_table.Goals as goal

pub price_slots-requires : goal.price_slots-requires
price_slots-requires c = due_priced c.requires.ready c.requires.table_ready

pub settle_due-requires : goal.settle_due-requires
settle_due-requires c =
    due_settles c.requires.ready c.requires.table_ready c.age_table.ensures

pub returns : goal.returns
returns c =
    record { table_after = all_settled _ _ (rw (c.requires.table_ready.due_is, c.age_table.ensures) at c.settle_due.ensures); prices_after = ap (λ (l : List ℕ). l ++ drop (length c.args.table.now) c.args.prices.now) (all_priced _ c.args.track_prices.now (take (length c.args.table.now) c.args.prices.now) (length-take-le _ _ c.requires.table_ready.room) (rw c.requires.table_ready.due_is at c.price_slots.ensures)) }
