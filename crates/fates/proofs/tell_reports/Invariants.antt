use Prim.Native.Nat.{ℕ, ◌≤◌}
use mathlib.Core.Path.{◌≡◌}
use mathlib.Core.List.{List}
use lib.ListN.{length}
use Rattle.laws.proofs.Fold.{Stepped, Answered}
use Rattle.fates.specs.Fates.{Handed, handed_in, free_slot, after_report}
use Rattle.fates.proofs.Telling.{fate_out, slot_out, shown_out}
use Rattle.laws.specs.Lists.{numbers}
use Rattle.fates.proofs.tell_reports.Given as goal

pub record Inv (h : Handed) (P : List ℕ) (table₀ table : List (List ℕ)) (fates₀ fates slots₀ slots shown₀ shown : List ℕ) (from j : ℕ) : Type 0 where
  pub same : length table ≡ length table₀
  pub below : from ≤ free_slot table
  pub tables : Stepped (after_report h P) (numbers (length h.batch)) table₀ table j
  pub fate : Answered (after_report h P) (fate_out h P) (numbers (length h.batch)) table₀ table fates fates₀ j
  pub slot : Answered (after_report h P) (slot_out h P) (numbers (length h.batch)) table₀ table slots slots₀ j
  pub show : Answered (after_report h P) (shown_out h P) (numbers (length h.batch)) table₀ table shown shown₀ j

abbrev pub invariant-loop-j : goal.invariant-loop-j
invariant-loop-j l = Inv (handed_in l.assigned l.call) l.assigned.pairing.now l.initial.table l.table l.initial.fates l.fates l.initial.slots l.slots l.initial.shown l.shown l.from l.j
