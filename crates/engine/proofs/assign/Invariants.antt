use Prim.Native.Nat.{ℕ, ◌<◌}
use Rattle.paths.specs.State.{PairedOrOut}
use Rattle.paths.specs.Held.{ReadyAgain}
use Rattle.engine.proofs.assign.Given as goal

abbrev pub invariant-loop-track : goal.invariant-loop-track
invariant-loop-track l = ReadyAgain l.sheet l.initial.pairs l.initial.tree l.pairs l.tree
    × ((i : ℕ) → i < l.track → PairedOrOut l.sheet.reports l.pairs.pairing.now l.pairs.prices.now i)
