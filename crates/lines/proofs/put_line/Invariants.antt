use Rattle.lines.proofs.Writing.{Lining}
use Rattle.lines.proofs.put_line.Given as goal

abbrev pub invariant-loop-i : goal.invariant-loop-i
invariant-loop-i l = Lining l.initial.out l.place l.numbers l.out l.at l.i
