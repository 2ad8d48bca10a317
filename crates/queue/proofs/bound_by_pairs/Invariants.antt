use Rattle.queue.specs.Held.{Slack}
use Rattle.queue.proofs.bound_by_pairs.Given as goal

abbrev pub invariant-loop-track : goal.invariant-loop-track
invariant-loop-track l = Slack l.sheet l.track l.pairs l.slack
