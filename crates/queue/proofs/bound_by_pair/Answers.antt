use Rattle.queue.proofs.Rise.{row_slack, bounded_row}
use Rattle.queue.proofs.bound_by_pair.Goals as goal

pub bound_slack-requires : goal.bound_slack-requires
bound_slack-requires c =
    let p = c.requires in
    rw c.row.ensures (row_slack _ _ _ _ _ _ _ _ p.0 p.1.0 p.1.1)

pub returns : goal.returns
returns c =
    let p = c.requires in
    bounded_row _ _ _ _ _ _ _ _ p.0 p.1.0 p.1.1 _ (rw c.row.ensures at c.bound_slack.ensures)
