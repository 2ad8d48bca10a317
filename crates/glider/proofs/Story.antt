-- The old filter loses the glider in the scene, and every best pairing continues both tracks.
use Prim.Native.Nat.{ℕ, zero, suc, ◌<◌}
use mathlib.Core.Path.{◌≡◌, refl, sym, ap, ◌∙◌}
use mathlib.Core.List.{List, [], ◌∷◌}
use native.Mathlib.Omega.{arith}
use lib.ListN.{length}
use Rattle.laws.specs.Lists.{at, first_index, indices_from, after_all, outs}
use Rattle.laws.specs.Tests.{each, holds}
use Rattle.laws.proofs.Listed.{entries}
use Rattle.numbers.specs.Whole.{remainder, circular_distance}
use Rattle.numbers.specs.Azimuth.{signed16, azimuth_difference}
use Rattle.numbers.specs.Sectors.{sector_of}
use Rattle.records.specs.Fields.{allowance, track_rules, bad_track_field, report_rules, bad_report_field, sure_confidence, sure_quality, is_weak}
use Rattle.records.specs.Bytes.{speed_of, track_of, bytes_of, report_of, report_bytes_of, bad_slot_field, slot_due}
use Rattle.scoring.specs.Zone.{range_off, azimuth_off, within_sigmas, within_outer, zone_of}
use Rattle.scoring.specs.Position.{reaches, largest, position_of}
use Rattle.scoring.specs.Score.{pair_position, doppler_near, doppler_agrees, doppler_of, updates_age, age_of, confidence_trust, quality_trust, trust_of, worth_of, score_of}
use Rattle.matching.specs.Pairing.{none, HasReport, ValidPairing, Best, sheet_of}
use Rattle.matching.specs.Answer.{sizes_ok, cells_ok, pairing_ok, sheet_refusal}
use Rattle.matching.proofs.Facts as facts
use Rattle.matching.proofs.Theorems.{all_are_paired, zero_is_best}
use Rattle.engine.specs.Call.{Paired, PairsSheet}
use Rattle.intake.specs.Refusals.{slot_bad, report_bad, report_elsewhere, none_of, due_slots, demands, number_of, fault_of, refusal_of}
use Rattle.scoresheet.specs.Cells.{cell_of, pair_cell, row_of, rows_of, cells_of, tracks_of, reports_of}
use Rattle.scoresheet.specs.Call.{cell_room, sheet_by, sheet_after}
use Rattle.glider.specs.Nearest.{nearer_of, nearest_of, nearest_for, taken_after, nearest_first}
use Rattle.glider.specs.Scene.{table, batch, scene, cells, all_free, ridge, glider, lost, kept}

-- The scene's score sheet.
pub cells_are : cells_of scene ≡ cells
unfolding due_slots indices_from cells_of rows_of row_of pair_cell cell_of table batch bytes_of report_bytes_of track_of report_of speed_of signed16 remainder slot_due sure_confidence sure_quality is_weak score_of zone_of within_sigmas within_outer range_off azimuth_off azimuth_difference worth_of pair_position position_of largest reaches doppler_of doppler_agrees doppler_near circular_distance age_of updates_age trust_of confidence_trust quality_trust
cells_are = refl

-- The sheet call gives it, whatever the four cells that were lent held.
pub scene_cells : (a b c d : ℕ) → sheet_after scene (a ∷ b ∷ c ∷ d ∷ []) ≡ cells
unfolding sheet_after sheet_by cell_room refusal_of fault_of number_of demands none_of slot_bad report_bad report_elsewhere due_slots indices_from first_index tracks_of reports_of table batch bytes_of report_bytes_of track_of report_of speed_of signed16 remainder bad_slot_field slot_due bad_track_field track_rules allowance bad_report_field report_rules sector_of
scene_cells a b c d = rw cells_are

-- Nearest first, the ridge's track takes the glider's return, and the glider's track has none.
pub nearest_first_loses_the_glider : nearest_first 2 2 cells all_free ≡ lost
unfolding nearest_first nearest_for taken_after nearest_of nearer_of after_all outs
nearest_first_loses_the_glider = refl

-- Each track can have its own return.
pub kept_is_valid : ValidPairing (sheet_of 2 2 cells) (at kept)
unfolding pairing_ok each
kept_is_valid = facts.valid (sheet_of 2 2 cells) (at kept) refl

both_have_one : (i : ℕ) → i < 2 → HasReport (at kept) i
both_have_one zero h e = let z : ◌≡◌ {A = ℕ} 0 none = e in omega arith
both_have_one (suc zero) h e = let z : ◌≡◌ {A = ℕ} 1 none = e in omega arith
both_have_one (suc (suc i)) h e = omega arith

-- So every best pairing continues both tracks ..
pub best_pairs_both : (P : ℕ → ℕ) → Best (sheet_of 2 2 cells) P → (i : ℕ) → i < 2 → HasReport P i
best_pairs_both P b = all_are_paired (sheet_of 2 2 cells) P (at kept) b kept_is_valid both_have_one

one : (n : ℕ) → n < 2 → (n ≡ 0 → ⊥) → n ≡ 1
one zero h f = absurd (f refl)
one (suc zero) h f = refl
one (suc (suc n)) h f = omega arith

none_else : (n : ℕ) → n < 2 → (n ≡ 1 → ⊥) → n ≡ 0
none_else zero h f = refl
none_else (suc zero) h f = absurd (f refl)
none_else (suc (suc n)) h f = omega arith

-- .. each with its own return.
pub best_keeps_the_glider : (P : ℕ → ℕ) → Best (sheet_of 2 2 cells) P → (P 0 ≡ ridge) × (P 1 ≡ glider)
best_keeps_the_glider P b =
    let v = b.valid in
    let p₀ = best_pairs_both P b 0 (omega arith) in
    let p₁ = best_pairs_both P b 1 (omega arith) in
    let l₀ : P 0 < 2 = v.there 0 (omega arith) p₀ in
    let l₁ : P 1 < 2 = v.there 1 (omega arith) p₁ in
    let not-ridge : P 1 ≡ 0 → ⊥ = λ e. v.admissible 1 (omega arith) p₁ (ap (λ (j : ℕ). (sheet_of 2 2 cells).cell 1 j) e) in
    let e₁ : P 1 ≡ 1 = one (P 1) l₁ not-ridge in
    let apart : P 0 ≡ 1 → ⊥ = λ e. let z : ◌≡◌ {A = ℕ} 0 1 = v.once 0 1 (omega arith) (omega arith) p₀ (e ∙ sym e₁) in omega arith in
    (none_else (P 0) l₀ apart, e₁)

-- What the pairing call writes for the scene, into lists of two, is that pairing.
pub call_keeps_the_glider : (p' u' v' : List ℕ) (answer : Paired) → PairsSheet 2 2 cells (none ∷ none ∷ []) (0 ∷ 0 ∷ []) (0 ∷ 0 ∷ []) p' u' v' answer → length p' ≡ 2 → p' ≡ kept
unfolding sheet_refusal sizes_ok cells_ok holds each
call_keeps_the_glider p' u' v' answer s l =
    let b = best_keeps_the_glider (at p') (zero_is_best 2 2 cells p' u' v' (s.served refl).accepted) in
    entries 0 2 p' l ∙ cc (b.0, b.1)
