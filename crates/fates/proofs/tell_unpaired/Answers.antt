use mathlib.Core.Path.{sym, ◌∙◌}
use native.Mathlib.Omega.{arith}
use borrow.Author.Tests.{lt-leb, le-leb}
use lib.ListN.{length}
use Rattle.settling.specs.Settle.{started_of}
use Rattle.fates.specs.Fates.{fate_number, free_slot, told_unpaired, after_unpaired}
use Rattle.fates.proofs.Telling.{free_found, none_free}
use Rattle.fates.proofs.tell_unpaired.Goals as goal

pub returns-then-weak : goal.returns-then-weak
unfolding told_unpaired after_unpaired fate_number
returns-then-weak c =
    let weak = sym c.is_weak-weak.ensures ∙ c.if-weak.true in
    record { told = rw (weak, c.no_track.ensures); table_after = rw weak }

pub pack-requires : goal.pack-requires
unfolding started_of
pack-requires c = rw c.started.ensures (omega arith)

pub returns-in-Some : goal.returns-in-Some
unfolding told_unpaired after_unpaired fate_number
returns-in-Some c =
    let weak = sym c.is_weak-weak.ensures ∙ c.if-weak.false in
    let there = free_found c.args.table.now (sym c.in-Some.is ∙ c.requires.2) in
    let room = lt-leb (length c.args.table.now) (free_slot c.args.table.now) (rw there.0 at there.1) in
    record { told = rw (weak, room, there.0); table_after = rw (weak, room, there.0, c.pack.ensures, c.started.ensures) }

pub returns-in-None : goal.returns-in-None
unfolding told_unpaired after_unpaired fate_number
returns-in-None c =
    let weak = sym c.is_weak-weak.ensures ∙ c.if-weak.false in
    let full = le-leb (length c.args.table.now) (free_slot c.args.table.now) (none_free c.args.table.now (sym c.in-None.is ∙ c.requires.2)) in
    record { told = rw (weak, full, c.no_track-in-None.ensures); table_after = rw (weak, full) }
