use borrow.Author.Tests.{eq-eqb, ne_eqb}
use Rattle.scoresheet.proofs.Due.{due_track_lem}
use Rattle.settling.proofs.HandedOn.{settleable}
use Rattle.records.proofs.Checked.{sound}
use mathlib.Core.Path.{sym, ◌∙◌}
use Rattle.walk.specs.Table.{rested_slot, settled_slot}
use Rattle.walk.proofs.settled_slot.Goals as goal

pub returns-then-not-slot_due : goal.returns-then-not-slot_due
unfolding settled_slot rested_slot
returns-then-not-slot_due c =
    let d = sym c.slot_due.ensures ∙ c.if-not-slot_due.true in
    rw d (rw d at c.rested_slot.ensures)

pub missed_slot-requires : goal.missed_slot-requires
missed_slot-requires c =
    record { well_formed = due_track_lem _ _ c.requires.slot_good (sym c.slot_due.ensures ∙ c.if-not-slot_due.false); sector_in = c.requires.sector_in }

pub returns-then-number : goal.returns-then-number
unfolding settled_slot
returns-then-number c = rw (sym c.slot_due.ensures ∙ c.if-not-slot_due.false, eq-eqb _ _ c.if-number.true) c.missed_slot.ensures

pub paired_slot-requires : goal.paired_slot-requires
paired_slot-requires c =
    let d = sym c.slot_due.ensures ∙ c.if-not-slot_due.false in
    record { settleable = settleable (due_track_lem _ _ c.requires.slot_good d); sound = sound _ (c.requires.reports_good _ (c.requires.there d c.if-number.false)); sector_in = c.requires.sector_in }

pub returns : goal.returns
unfolding settled_slot
returns c = rw (sym c.slot_due.ensures ∙ c.if-not-slot_due.false, ne_eqb _ _ c.if-number.false) c.paired_slot.ensures
