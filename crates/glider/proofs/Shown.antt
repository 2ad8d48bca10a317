-- The sector call shows both returns of the scene.
use Prim.Native.Nat.{ℕ}
use mathlib.Core.Path.{◌≡◌, refl, ap, ◌∙◌}
use mathlib.Core.List.{List, [], ◌∷◌, ◌++◌}
use lib.ListN.{drop}
use Rattle.laws.specs.Lists.{at, first_index, indices_from, outs}
use Rattle.laws.specs.Tests.{holds}
use Rattle.laws.proofs.Listed.{entries}
use Rattle.numbers.specs.Whole.{remainder}
use Rattle.numbers.specs.Azimuth.{signed16}
use Rattle.numbers.specs.Sectors.{sector_of}
use Rattle.records.specs.Fields.{allowance, track_rules, bad_track_field, report_rules, bad_report_field}
use Rattle.records.specs.Bytes.{speed_of, track_of, bytes_of, report_of, report_bytes_of, bad_slot_field, slot_due}
use Rattle.matching.specs.Answer.{check_answer}
use Rattle.matching.proofs.Theorems.{zero_is_best}
use Rattle.intake.specs.Refusals.{slot_bad, report_bad, report_elsewhere, none_of, due_slots, demands, number_of, fault_of, refusal_of}
use Rattle.scoresheet.specs.Cells.{tracks_of, reports_of}
use Rattle.settling.specs.Settle.{updated_of}
use Rattle.walk.specs.Table.{due_rank, paired_slot, settled_slot, settled_table}
use Rattle.fates.specs.Fates.{owner_of, is_shown, slot_of, told_paired, told_of, after_report, report_numbers, shown_of}
use Rattle.sector.specs.declared.Counts.{Counts}
use Rattle.intake.specs.declared.Refusal.{Refusal}
use Rattle.std.specs.Prelude.{Result}
use Rattle.sector.specs.Serve.{Lent, lent, rooms, room_for, sector_refusal, Chosen, Choice, reports_in, after_of, ServesSector}
use Rattle.glider.specs.Scene.{table, batch, sector, scene, cells, kept, both_shown}
use Rattle.glider.proofs.Story.{cells_are, best_keeps_the_glider}

-- what the sector call is lent: the table and the sector, and lists of two zeros
abbrev pub lists : Lent
lists = lent table sector (0 ∷ 0 ∷ []) (0 ∷ 0 ∷ []) (0 ∷ 0 ∷ []) (0 ∷ 0 ∷ []) (0 ∷ 0 ∷ [])

tracks_are : tracks_of scene ≡ 2
unfolding tracks_of due_slots indices_from slot_due table bytes_of
tracks_are = refl

reports_are : reports_of scene ≡ 2
unfolding reports_of batch
reports_are = refl

not_refused : sector_refusal scene lists ≡ 0
unfolding sector_refusal refusal_of fault_of number_of demands none_of slot_bad report_bad report_elsewhere due_slots indices_from first_index table batch bytes_of report_bytes_of track_of report_of speed_of signed16 remainder bad_slot_field slot_due bad_track_field track_rules allowance bad_report_field report_rules sector_of rooms holds room_for reports_of
not_refused = refl

-- whatever it chooses, each track has its own return
chosen_is_kept : (c : Chosen) → Choice scene c → c.pairing ≡ kept
chosen_is_kept c h =
    let a : check_answer 2 2 cells c.pairing c.prices c.discounts ≡ 0 = rw (tracks_are, reports_are, cells_are) at h.accepted in
    let b = best_keeps_the_glider (at c.pairing) (zero_is_best 2 2 cells c.pairing c.prices c.discounts a) in
    entries 0 2 c.pairing (h.number_each ∙ tracks_are) ∙ cc (b.0, b.1)

kept_is_shown : shown_of (reports_in scene) kept (settled_table scene kept) ++ drop (reports_of scene) (0 ∷ 0 ∷ []) ≡ both_shown
unfolding shown_of report_numbers outs after_report told_of told_paired owner_of slot_of is_shown first_index settled_table due_rank settled_slot paired_slot updated_of due_slots indices_from slot_due table batch bytes_of report_bytes_of track_of report_of reports_of
kept_is_shown = refl

pub call_shows_the_glider : (l' : Lent) (answer : Result Counts Refusal) → ServesSector scene lists l' answer → l'.shown ≡ both_shown
unfolding after_of
call_shows_the_glider l' answer s =
    let w = s.served not_refused in
    ap (λ (l : Lent). l.shown) w.left
    ∙ ap (λ (P : List ℕ). shown_of (reports_in scene) P (settled_table scene P) ++ drop (reports_of scene) (0 ∷ 0 ∷ [])) (chosen_is_kept w.chosen w.choice)
    ∙ kept_is_shown
