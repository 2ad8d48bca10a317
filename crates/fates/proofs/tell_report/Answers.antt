use mathlib.Core.Path.{sym, ◌∙◌}
use Rattle.fates.specs.Fates.{told_of, told_paired, slot_of, after_report}
use Rattle.fates.proofs.Telling.{owner_found, no_owner}
use Rattle.fates.proofs.tell_report.Goals as goal

pub returns-in-Some : goal.returns-in-Some
unfolding told_of told_paired slot_of after_report
returns-in-Some c =
    let owner = owner_found c.args.assigned.pairing.now c.args.j (sym c.in-Some.is ∙ c.owner_of.ensures) in
    record { told = rw (owner.1, c.is_shown.ensures, owner.0); table_after = rw owner.1 }

pub returns-in-None : goal.returns-in-None
unfolding told_of after_report
returns-in-None c =
    let none = no_owner c.args.assigned.pairing.now c.args.j (sym c.in-None.is ∙ c.owner_of.ensures) in
    record { told = rw (none, ← c.unpack_report.ensures) c.tell_unpaired.ensures.told; table_after = rw (none, ← c.unpack_report.ensures) c.tell_unpaired.ensures.table_after }
