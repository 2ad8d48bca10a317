-- The counts of a served call account for every report, every due track and every slot.
use Prim.Native.Nat.{ℕ, ◌+◌, ◌≤◌, ◌<◌}
use mathlib.Core.Path.{◌≡◌, refl, sym, ap, ◌∙◌}
use mathlib.Core.Bool.{Bool, true, false, cond}
use mathlib.Core.List.{List}
use mathlib.Core.Logic.{⊎_elim}
use native.Mathlib.Nat.{le_antisymm}
use native.Mathlib.Omega.{arith}
use borrow.Author.Tests.{eqb-true, eq-eqb, ne_eqb, lt-ltb}
use lib.Dec.{eqb, ltb}
use lib.ListN.{length}
use Rattle.laws.specs.Sums.{sum}
use Rattle.laws.proofs.Stores.{same_or}
use Rattle.laws.proofs.Sums.{sum_le, sum_injective}
use Rattle.laws.specs.Lists.{at}
use Rattle.matching.specs.Pairing.{none, HasReport, pairs}
use Rattle.intake.specs.Refusals.{Input}
use Rattle.scoresheet.specs.Cells.{tracks_of, reports_of, sector_sheet}
use Rattle.walk.specs.Table.{settled_table}
use Rattle.walk.proofs.Settled.{all_counted}
use Rattle.fates.specs.Fates.{paired, owner_of, count_of}
use Rattle.fates.proofs.Answers.{length_fates, one_fate}
use Rattle.sector.specs.Serve.{Chosen, Choice, reports_in, fates_in, tally, counts_of}
use Rattle.promises.specs.Words.{fate_at}
use Rattle.promises.proofs.Pairings.{few_reports, valid_pairing, one_to_one}
use Rattle.promises.proofs.Reports.{owner_has, owner_there, paired_when, paired_only}
use Rattle.laws.proofs.Counts.{count_places}

-- Each report is counted once: as paired, started, weak or full.
pub reports_all_counted : (i : Input) (P : List ℕ) → (counts_of i P).paired + (counts_of i P).started + (counts_of i P).weak + (counts_of i P).full ≡ reports_of i
unfolding counts_of tally fates_in reports_of
reports_all_counted i P = (one_fate (reports_in i) P (settled_table i P)).all

fates_long : (i : Input) (P : List ℕ) → length (fates_in i P) ≡ reports_of i
unfolding fates_in reports_of
fates_long i P = length_fates (reports_in i) P (settled_table i P)

due_tracks_split : (i : Input) (P : List ℕ) → pairs (sector_sheet i) (at P) + ((counts_of i P).coasted + (counts_of i P).dropped) ≡ tracks_of i
unfolding counts_of tally pairs sector_sheet
due_tracks_split i P = all_counted i (tracks_of i) P

-- The paired count is the number of pairs: each pair has one track and one report.
module _ (i : Input) (c : Chosen) (h : Choice i c) where
  abbrev P : ℕ → ℕ
  P = at c.pairing

  -- 1 for a report that is told paired, and for a due track that has one
  abbrev told : ℕ → ℕ
  told j = cond (eqb paired (fate_at i c.pairing j)) 1 0

  abbrev has : ℕ → ℕ
  has rank = cond (eqb (P rank) none) 0 1

  not_none : (j : ℕ) → j < reports_of i → j ≡ none → ⊥
  not_none j l e = omega (arith, few_reports i c h)

  owner_in : (j : ℕ) → owner_of c.pairing j < tracks_of i → owner_of c.pairing j < length c.pairing
  owner_in j l = omega (arith, h.number_each)

  told_sum : (counts_of i c.pairing).paired ≡ sum (reports_of i) told
  unfolding counts_of tally count_of
  told_sum = count_places (eqb paired) (fates_in i c.pairing) 0 ∙ ap (λ (m : ℕ). sum m told) (fates_long i c.pairing)

  track_told : (rank : ℕ) → rank < tracks_of i → has rank ≤ cond (ltb (P rank) (reports_of i)) (told (P rank)) 0
  unfolding sector_sheet
  track_told rank l = ⊎_elim none_here some_here (same_or (P rank) none)
    where
      none_here : P rank ≡ none → has rank ≤ cond (ltb (P rank) (reports_of i)) (told (P rank)) 0
      none_here e = rw (eq-eqb (P rank) none e) (omega arith)

      some_here : HasReport P rank → has rank ≤ cond (ltb (P rank) (reports_of i)) (told (P rank)) 0
      some_here p =
          let r : P rank < reports_of i = (valid_pairing i c h).there rank l p in
          let o : owner_of c.pairing (P rank) < length c.pairing = owner_there c.pairing (P rank) rank (rw h.number_each l) refl in
          rw (ne_eqb (P rank) none p, lt-ltb (P rank) (reports_of i) r, paired_when i c.pairing (P rank) r o) (omega arith)

  report_has : (j : ℕ) → j < reports_of i → told j ≤ cond (ltb (owner_of c.pairing j) (tracks_of i)) (has (owner_of c.pairing j)) 0
  report_has j l = go (eqb paired (fate_at i c.pairing j)) refl
    where
      go : (b : Bool) → eqb paired (fate_at i c.pairing j) ≡ b → cond b 1 0 ≤ cond (ltb (owner_of c.pairing j) (tracks_of i)) (has (owner_of c.pairing j)) 0
      go true e =
          let o : owner_of c.pairing j < length c.pairing = paired_only i c.pairing j l (sym (eqb-true paired (fate_at i c.pairing j) e)) in
          let d : owner_of c.pairing j < tracks_of i = omega (arith, h.number_each) in
          let w : P (owner_of c.pairing j) ≡ j = owner_has c.pairing j o in
          rw (lt-ltb (owner_of c.pairing j) (tracks_of i) d, ne_eqb (P (owner_of c.pairing j)) none (λ z. not_none j l (sym w ∙ z))) (omega arith)
      go false e = omega arith

  pub paired_count_is_pairs : (counts_of i c.pairing).paired ≡ pairs (sector_sheet i) P
  unfolding pairs sector_sheet
  paired_count_is_pairs =
      told_sum
      ∙ le_antisymm
      (omega (arith, sum_le (reports_of i) told (λ j. cond (ltb (owner_of c.pairing j) (tracks_of i)) (has (owner_of c.pairing j)) 0) report_has, sum_injective (reports_of i) (tracks_of i) (owner_of c.pairing) has owners_differ))
      (omega (arith, sum_le (tracks_of i) has (λ rank. cond (ltb (P rank) (reports_of i)) (told (P rank)) 0) track_told, sum_injective (tracks_of i) (reports_of i) P told reports_differ))
    where
      owners_differ : (j k : ℕ) → j < reports_of i → k < reports_of i → owner_of c.pairing j < tracks_of i → owner_of c.pairing j ≡ owner_of c.pairing k → j ≡ k
      owners_differ j k a b l e = sym (owner_has c.pairing j (owner_in j l)) ∙ ap P e ∙ owner_has c.pairing k (owner_in k (rw (← e) l))

      reports_differ : (rank other : ℕ) → rank < tracks_of i → other < tracks_of i → P rank < reports_of i → P rank ≡ P other → rank ≡ other
      reports_differ rank other a b r e = one_to_one i c h rank other a b (not_none (P rank) r) e

  -- Each due track is counted once: as paired, coasted or dropped.
  pub due_tracks_all_counted : (counts_of i c.pairing).paired + ((counts_of i c.pairing).coasted + (counts_of i c.pairing).dropped) ≡ tracks_of i
  due_tracks_all_counted = rw paired_count_is_pairs (due_tracks_split i c.pairing)
