use Rattle.walk.proofs.Walks.{missed_none, missed_more, missed_end, next_due}
use Rattle.walk.specs.Table.{coasted_count, dropped_count}
use native.Mathlib.Omega.{arith}
use Rattle.walk.proofs.count_missed.Goals as goal

pub loop-rank-init : goal.loop-rank-init
loop-rank-init c = missed_none _ _ _ _

pub offset_bounds-table-k : goal.offset_bounds-table-k
offset_bounds-table-k c =
    omega (arith, (next_due c.requires.ready c.requires.due_listed.0 c.loop-rank-test.true).early)

pub bounds-table-k : goal.bounds-table-k
bounds-table-k c =
    (next_due c.requires.ready c.requires.due_listed.0 c.loop-rank-test.true).there

pub missed_one-one-requires : goal.missed_one-one-requires
missed_one-one-requires c =
    record { settleable = (next_due c.requires.ready c.requires.due_listed.0 c.loop-rank-test.true).track; sector_in = c.requires.ready.sector_in }

pub loop-rank-preserved : goal.loop-rank-preserved
loop-rank-preserved c =
    missed_more c.loop-rank.invariant c.loop-rank-test.true c.requires.due_listed.0 c.missed_one-one.ensures.coasts c.missed_one-one.ensures.drops

pub returns : goal.returns
unfolding coasted_count dropped_count
returns c = record { coasts = (missed_end c.loop-rank.invariant c.loop-rank-test.false).0; drops = (missed_end c.loop-rank.invariant c.loop-rank-test.false).1 }
