-- The pairing of a served call: best for its sector, one to one, what the check says of it.
use Prim.Native.Nat.{ℕ, ◌≤◌, ◌<◌}
use mathlib.Core.Path.{◌≡◌, refl, sym, ap, ◌∙◌}
use mathlib.Core.List.{List, []}
use native.Mathlib.Omega.{arith}
use lib.ListN.{length, get_or}
use Rattle.records.specs.Bytes.{report_of}
use Rattle.std.specs.Prelude.{Option, Some, None}
use Rattle.scoring.specs.Score.{score_of}
use Rattle.scoring.proofs.ScoreLaws.{score_below}
use Rattle.laws.specs.Lists.{at}
use Rattle.matching.specs.Pairing.{none, score_end, Admissible, HasReport, ValidPairing, missed_tracks, Best}
use Rattle.matching.specs.Answer.{Fits, check_answer}
use Rattle.matching.proofs.Theorems.{zero_certificate, best_is_zero, fewest_misses, all_are_paired, no_free_report}
use Rattle.intake.specs.Refusals.{Input}
use Rattle.scoresheet.specs.Cells.{cell_of, tracks_of, reports_of, cells_of, due_track, sector_sheet}
use Rattle.scoresheet.proofs.SheetLaws.{cell_is}
use Rattle.sector.specs.Serve.{Chosen, Choice}
use Rattle.promises.proofs.Calls.{best_of_the_sector}

-- ---- admissible

admissible_score : (i : Input) (rank j : ℕ) (s : Option ℕ) → score_of (due_track i rank) (report_of (get_or i.batch j [])) i.site ≡ s → (s ≡ None → ⊥) → cell_of s ≡ none → ⊥
unfolding cell_of
admissible_score i rank j None e a z = a refl
admissible_score i rank j (Some x) e a z =
    let b : x < score_end = score_below (due_track i rank) (report_of (get_or i.batch j [])) i.site x e in
    omega arith

-- A pair is admissible in the sector's sheet exactly when the rules of a pair's zones admit it.
pub admissible_exactly_when : (i : Input) (rank j : ℕ) → rank < tracks_of i → j < reports_of i → (Admissible (sector_sheet i) rank j → score_of (due_track i rank) (report_of (get_or i.batch j [])) i.site ≡ None → ⊥) × ((score_of (due_track i rank) (report_of (get_or i.batch j [])) i.site ≡ None → ⊥) → Admissible (sector_sheet i) rank j)
unfolding cell_of
admissible_exactly_when i rank j a b = (
  (λ w e. w (cell_is i rank j a b ∙ ap cell_of e)),
  (λ w z. admissible_score i rank j (score_of (due_track i rank) (report_of (get_or i.batch j [])) i.site) refl w (sym (cell_is i rank j a b) ∙ z)),
)

-- ---- a choice

module _ (i : Input) (c : Chosen) (h : Choice i c) where
  fits : Fits (tracks_of i) (reports_of i) (cells_of i) c.pairing c.prices c.discounts
  fits = (zero_certificate (tracks_of i) (reports_of i) (cells_of i) c.pairing c.prices c.discounts h.accepted).0

  -- no report has the number that stands for none
  pub few_reports : reports_of i ≤ none
  few_reports = omega (arith, fits.reports_few)

  pub valid_pairing : ValidPairing (sector_sheet i) (at c.pairing)
  valid_pairing = (best_of_the_sector i c h).valid

  -- No one-to-one pairing of admissible pairs leaves fewer due tracks out.
  pub fewest_misses_of_the_sector : (Q : ℕ → ℕ) → ValidPairing (sector_sheet i) Q → missed_tracks (sector_sheet i) (at c.pairing) ≤ missed_tracks (sector_sheet i) Q
  fewest_misses_of_the_sector Q q = fewest_misses (sector_sheet i) (at c.pairing) Q (best_of_the_sector i c h) q

  -- A due track is left out only where every report that is admissible for it is some due track's.
  pub no_free_report_for_a_missed_track : (rank j : ℕ) → rank < tracks_of i → at c.pairing rank ≡ none → j < reports_of i → Admissible (sector_sheet i) rank j → (other : ℕ) × ((other < tracks_of i) × (at c.pairing other ≡ j))
  unfolding sector_sheet
  no_free_report_for_a_missed_track rank j l m r a = no_free_report (sector_sheet i) (at c.pairing) (best_of_the_sector i c h) few_reports rank j l m r a

  -- Where some one-to-one pairing of admissible pairs serves every due track, every due track is paired.
  pub every_due_track_is_paired : (Q : ℕ → ℕ) → ValidPairing (sector_sheet i) Q → ((rank : ℕ) → rank < tracks_of i → HasReport Q rank) → (rank : ℕ) → rank < tracks_of i → HasReport (at c.pairing) rank
  unfolding sector_sheet
  every_due_track_is_paired Q q all = all_are_paired (sector_sheet i) (at c.pairing) Q (best_of_the_sector i c h) q all

  -- One to one: two due tracks with the same report are the same track.
  pub one_to_one : (rank other : ℕ) → rank < tracks_of i → other < tracks_of i → HasReport (at c.pairing) rank → at c.pairing rank ≡ at c.pairing other → rank ≡ other
  unfolding sector_sheet
  one_to_one rank other a b p e = valid_pairing.once rank other a b p e

  -- With the sector call's prices and discounts the check accepts every best pairing of the sheet.
  pub check_accepts_every_best : (q : List ℕ) → tracks_of i ≤ length q → Best (sector_sheet i) (at q) → check_answer (tracks_of i) (reports_of i) (cells_of i) q c.prices c.discounts ≡ 0
  unfolding sector_sheet
  check_accepts_every_best q l b = best_is_zero (tracks_of i) (reports_of i) (cells_of i) c.pairing q c.prices c.discounts h.accepted l b
