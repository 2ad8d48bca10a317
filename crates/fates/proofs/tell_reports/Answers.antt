use mathlib.Core.Path.{◌≡◌, refl, ap, ◌∙◌}
use Prim.Native.Nat.{◌+◌}
use mathlib.Core.Bool.{Bool, true, false}
use mir.Val.{bool_byte}
use Rattle.std.specs.Option.{unwrap_or}
use denote.Enum.Declared.{tag_of}
use Rattle.fates.specs.contracts.Fate.{the_type}
use Rattle.fates.specs.declared.Fate.{Fate}
use Rattle.fates.specs.declared.Fate.TheVariants.{Paired, Started, Weak, Full}
use Rattle.fates.specs.declared.Told.{Told}
use Rattle.fates.specs.Fates.{fate_number, no_slot, mark, report_numbers, started_table, fates_of, slots_of, shown_of}
use Rattle.laws.proofs.Rounds.{round_more, round_upto, round_end, told_more, told_end}
use Rattle.fates.proofs.Telling.{report_free, lowest_or_length}
use Rattle.fates.proofs.tell_reports.Goals as goal

as_number : (fate : Fate) → tag_of the_type fate + 1 ≡ fate_number fate
unfolding fate_number
as_number Paired = refl
as_number Started = refl
as_number Weak = refl
as_number Full = refl

as_mark : (shown : Bool) → bool_byte shown ≡ mark shown
as_mark true = refl
as_mark false = refl

pub loop-j-preserved : goal.loop-j-preserved
loop-j-preserved c =
    let i = c.loop-j.invariant in
    let told = c.tell_report-told.ensures.told in
    let e = c.tell_report-told.ensures.table_after in
    let l = c.loop-j-test.true in
    let room = c.requires.room_to_tell in
    record {
      same = c.tell_report-told.auto.table ∙ i.same;
      below = rw (e, c.unwrap_or-from.ensures, c.free_from-free.ensures, lowest_or_length c.loop-j.table) (report_free _ _ _ _);
      tables = round_more _ i.tables l e;
      fate = told_more _ _ i.fate l room.for_fates e (as_number _ ∙ ap (λ (s : Told). fate_number s.fate) told);
      slot = told_more _ _ i.slot l room.for_slots e (c.unwrap_or.ensures ∙ ap (λ (s : Told). unwrap_or s.slot no_slot) told);
      show = told_more _ _ i.show l room.for_shown e (c.from.ensures ∙ as_mark _ ∙ ap (λ (s : Told). mark s.shown) told);
    }

pub returns : goal.returns
unfolding started_table fates_of slots_of shown_of report_numbers
returns c =
    let i = c.loop-j.invariant in
    let l = c.loop-j-test.false in
    let u = round_upto _ i.tables in
    (round_end _ i.tables l, told_end _ _ i.fate l u, told_end _ _ i.slot l u, told_end _ _ i.show l u)
