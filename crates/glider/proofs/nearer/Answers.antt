use Rattle.glider.proofs.Filter.{taken_stays, farther_stays, nearer_moves}
use Rattle.glider.proofs.nearer.Goals as goal
use Rattle.glider.proofs.nearer.Goals.{then-taken-j-via-then-taken-j, then-taken-j-via-else-taken-j+then-score_in-row}

pub returns-then-taken-j : goal.returns-then-taken-j
returns-then-taken-j c =
    let p = c.requires in
    elim c.then-taken-j.branch [
      | then-taken-j-via-then-taken-j w ↦ taken_stays _ _ _ _ p.0 p.1.1 w.if-taken-j.true
      | then-taken-j-via-else-taken-j+then-score_in-row w ↦ farther_stays _ _ _ _ p.0 p.1.1 w.if-taken-j.false (rw (← w.score_in.ensures) w.if-score_in-row.true)
    ]

pub returns : goal.returns
returns c =
    let p = c.requires in
    nearer_moves _ _ _ _ p.0 p.1.1 c.if-taken-j.false (rw (← c.score_in.ensures) c.if-score_in-row.false)
