use Rattle.sector.proofs.Stepping.{counted, summable, settles, tellable, settled}
use Rattle.sector.proofs.settle.Goals as goal

pub score_sum-scores-requires : goal.score_sum-scores-requires
score_sum-scores-requires c =
    summable _ _ _ _ _ c.requires.ready c.requires.paired_up

pub count_missed-missed-requires-clause-due_listed : goal.count_missed-missed-requires-clause-due_listed
count_missed-missed-requires-clause-due_listed c = counted _ _ _ _ _ c.requires.ready c.requires.paired_up

pub settle_table-requires-clause-table_ready : goal.settle_table-requires-clause-table_ready
settle_table-requires-clause-table_ready c = settles _ _ _ _ _ c.requires.ready c.requires.paired_up _ c.requires.room.for_prices

pub tell_reports-requires-clause-tellable : goal.tell_reports-requires-clause-tellable
tell_reports-requires-clause-tellable c = tellable _ _ _ _ _ c.requires.ready c.requires.paired_up _ c.settle_table.auto.table

pub returns-clause-settled : goal.returns-clause-settled
returns-clause-settled c =
    let tell-reports = c.tell_reports in
    settled _ _ _ _ _ c.requires.ready c.requires.paired_up c.score_sum-scores.ensures c.count_missed-missed.ensures.coasts c.count_missed-missed.ensures.drops c.settle_table.ensures.table_after c.settle_table.ensures.prices_after tell-reports.ensures.0 tell-reports.ensures.1 tell-reports.ensures.2 tell-reports.ensures.3 c.count_all.ensures
