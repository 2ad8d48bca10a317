use Rattle.paths.specs.Held.{ReadyAgain}
use Rattle.queue.proofs.first_inserts.Given as goal

abbrev pub invariant-loop : goal.invariant-loop
invariant-loop l = ReadyAgain l.sheet l.initial.pairs l.initial.tree l.pairs l.tree
