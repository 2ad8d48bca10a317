-- A call as a whole: when it is refused, and that all but the choice of a best pairing and its prices is settled.
use Prim.Native.Nat.{ℕ}
use mathlib.Core.Path.{◌≡◌, refl, sym, ap, ◌∙◌}
use mathlib.Core.List.{List}
use mathlib.Core.Logic.{⊎_elim}
use Rattle.laws.proofs.Stores.{same_or}
use Rattle.laws.specs.Lists.{at}
use Rattle.matching.specs.Pairing.{Best, sum_of_scores}
use Rattle.matching.proofs.Theorems.{zero_is_best, best_agree}
use Rattle.std.specs.Prelude.{Result, Ok, Err}
use Rattle.intake.specs.declared.Refusal.{Refusal}
use Rattle.intake.specs.Refusals.{Input, number, refusal_numbered, number_given}
use Rattle.intake.proofs.Numbers.{number_positive, numbered_again}
use Rattle.scoresheet.specs.Cells.{tracks_of, reports_of, cells_of, sector_sheet}
use Rattle.sector.specs.declared.Counts.{Counts}
use Rattle.sector.specs.Serve.{Lent, sector_refusal, Chosen, Choice, tally, counts_of, ServedWith, ServesSector}
use Rattle.sector.proofs.Answering.{answers_number, answers_refused, answers_done}
use Rattle.promises.specs.Words.{RefusedExactlyWhen, SameScore}

-- ---- refusals

-- A call is refused exactly when the refusal's number is the first that applies; then all that was lent keeps its bytes.
pub refused_exactly_when : (i : Input) (l l' : Lent) (answer : Result Counts Refusal) → ServesSector i l l' answer → (r : Refusal) → RefusedExactlyWhen i l l' answer r
refused_exactly_when i l l' answer R r =
    let only : answer ≡ Err r → sector_refusal i l ≡ number r = λ e. sym (answers_number R) ∙ ap number_given e in
    record {
      only = only;
      when = λ e. answers_refused R (λ z. number_positive r (sym e ∙ z)) ∙ ap Err (ap refusal_numbered e ∙ numbered_again r);
      kept = λ e. R.refused (λ z. number_positive r (sym (only e) ∙ z));
    }

-- In every other case it is served, and answers by its counts.
pub done_otherwise : (i : Input) (l l' : Lent) (answer : Result Counts Refusal) → ServesSector i l l' answer → sector_refusal i l ≡ 0 → (counts : Counts) × (answer ≡ Ok counts)
done_otherwise i l l' answer R e = (R.counts, answers_done R e)

-- ---- what is settled

-- Two results of one call whose pairing, prices and discounts are the same are the same in every byte and in the answer.
pub same_choice_same_result : (i : Input) (l l₁ l₂ : Lent) (a₁ a₂ : Result Counts Refusal) (R : ServesSector i l l₁ a₁) (Q : ServesSector i l l₂ a₂) → ((e : sector_refusal i l ≡ 0) → (R.served e).chosen ≡ (Q.served e).chosen) → (l₁ ≡ l₂) × (a₁ ≡ a₂)
same_choice_same_result i l l₁ l₂ a₁ a₂ R Q same =
    ⊎_elim
    (λ z.
    let r = R.served z in
    let q = Q.served z in
    let c : r.chosen ≡ q.chosen = same z in (
      r.left ∙ rw c (sym q.left),
      answers_done R z ∙ ap Ok (r.counted ∙ rw c (sym q.counted)) ∙ sym (answers_done Q z),
    ))
    (λ n. (R.refused n ∙ sym (Q.refused n), answers_refused R n ∙ sym (answers_refused Q n)))
    (same_or (sector_refusal i l) 0)

-- The pairing of a served call is best for the sector's sheet: no one-to-one pairing of admissible pairs has more pairs, or as many at a lower
-- sum of scores.
pub best_of_the_sector : (i : Input) (c : Chosen) → Choice i c → Best (sector_sheet i) (at c.pairing)
unfolding sector_sheet
best_of_the_sector i c h = zero_is_best (tracks_of i) (reports_of i) (cells_of i) c.pairing c.prices c.discounts h.accepted

-- the sum of scores is counted as it is
pub score_counted : (i : Input) (P : List ℕ) → (counts_of i P).score_sum ≡ sum_of_scores (sector_sheet i) (at P)
unfolding counts_of tally
score_counted i P = refl

-- Whichever best pairing was chosen: two results of one call have as many pairs and the same sum of pair scores, also as counted.
pub pairs_and_sum_agree : (i : Input) (l l₁ l₂ : Lent) (n m : Counts) (s : ServedWith i l l₁ n) (t : ServedWith i l l₂ m) → SameScore i s.chosen t.chosen n m
pairs_and_sum_agree i l l₁ l₂ n m s t =
    let w = best_agree (sector_sheet i) (at s.chosen.pairing) (at t.chosen.pairing) (best_of_the_sector i s.chosen s.choice) (best_of_the_sector i t.chosen t.choice) in
    record {
      agree = w;
      same_counted = rw (s.counted, t.counted) (score_counted i s.chosen.pairing ∙ w.same_scores ∙ sym (score_counted i t.chosen.pairing));
    }
