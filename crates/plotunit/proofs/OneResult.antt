-- Two results of one C call are equal, given the same best pairing and the same prices where there is a choice of them.
use Prim.Native.Nat.{ℕ}
use mathlib.Core.Path.{◌≡◌, sym, ap, ◌∙◌}
use mathlib.Core.List.{List}
use mathlib.Core.Logic.{⊎_elim}
use lib.ListN.{take, drop, take-append-drop}
use Rattle.laws.proofs.Stores.{same_or}
use Rattle.matching.specs.Answer.{check_answer}
use Rattle.engine.specs.Call.{pairing_refusal}
use Rattle.engine.proofs.Theorems.{same_call}
use Rattle.std.specs.Prelude.{Result}
use Rattle.intake.specs.declared.Refusal.{Refusal}
use Rattle.intake.specs.Refusals.{Input}
use Rattle.sector.specs.declared.Counts.{Counts}
use Rattle.sector.specs.Serve.{Lent, sector_refusal}
use Rattle.promises.proofs.Calls.{same_choice_same_result}
use Rattle.plotunit.specs.Calls.{served_number, served_counts, ServesForC, ScoresForC, paired_number, PairsForC}

-- plot_serve_sector: refused, or served by the same choice, two results agree in the number, the counts and every lent byte.
pub one_serve : {i : Input} {l l₁ l₂ : Lent} {counts c₁ c₂ : List ℕ} {n₁ n₂ : ℕ} (R : ServesForC i l l₁ counts c₁ n₁) (Q : ServesForC i l l₂ counts c₂ n₂) → ((e : sector_refusal i l ≡ 0) → (R.promised.served e).chosen ≡ (Q.promised.served e).chosen) → (n₁ ≡ n₂) × ((c₁ ≡ c₂) × (l₁ ≡ l₂))
one_serve {i} {l} {l₁} {l₂} {counts} R Q same =
    let w = same_choice_same_result i l l₁ l₂ R.answer Q.answer R.promised Q.promised same in (
      R.numbered ∙ ap served_number w.1 ∙ sym Q.numbered,
      (R.counted ∙ ap (λ (a : Result Counts Refusal). served_counts a counts) w.1 ∙ sym Q.counted, w.0),
    )

-- plot_score_sheet: nothing is left open.
pub one_sheet : {i : Input} {sheet s₁ s₂ size z₁ z₂ : List ℕ} {n₁ n₂ : ℕ} → ScoresForC i sheet s₁ size z₁ n₁ → ScoresForC i sheet s₂ size z₂ n₂ → (n₁ ≡ n₂) × ((s₁ ≡ s₂) × (z₁ ≡ z₂))
one_sheet R Q = (R.numbered ∙ sym Q.numbered, (R.filled ∙ sym Q.filled, R.sized ∙ sym Q.sized))

-- lists that agree in their first n entries and beyond them are the same
whole : (n : ℕ) (x y : List ℕ) → take n x ≡ take n y → drop n x ≡ drop n y → x ≡ y
whole n x y e f = sym (take-append-drop n x) ∙ rw (e, f) (take-append-drop n y)

-- plot_pair_sheet: two results agree in the number, and refused, or with the same first entries, in the three lists.
pub record SameLists (n m : ℕ) (p₁ u₁ v₁ p₂ u₂ v₂ : List ℕ) : Type 0 where
  pub pairing : take n p₁ ≡ take n p₂
  pub prices : take n u₁ ≡ take n u₂
  pub discounts : take m v₁ ≡ take m v₂

pub one_pairing : {n m : ℕ} {cells p u v p₁ u₁ v₁ p₂ u₂ v₂ : List ℕ} {n₁ n₂ : ℕ} → PairsForC n m cells p u v p₁ u₁ v₁ n₁ → PairsForC n m cells p u v p₂ u₂ v₂ n₂ → (pairing_refusal n m cells p u v ≡ 0 → SameLists n m p₁ u₁ v₁ p₂ u₂ v₂) → (n₁ ≡ n₂) × ((p₁ ≡ p₂) × ((u₁ ≡ u₂) × (v₁ ≡ v₂)))
one_pairing {n} {m} {cells} {p} {u} {v} {p₁} {u₁} {v₁} {p₂} {u₂} {v₂} R Q same =
    let w = same_call n m cells p u v p₁ u₁ v₁ R.answer p₂ u₂ v₂ Q.answer R.promised Q.promised in (
      R.numbered ∙ ap paired_number w.answers ∙ sym Q.numbered,
      ⊎_elim
          (λ z.
          let s = same z in
          let b = w.beyond z in
          (whole n p₁ p₂ s.pairing b.0, (whole n u₁ u₂ s.prices b.1.0, whole m v₁ v₂ s.discounts b.1.1)))
          w.refused
          (same_or (pairing_refusal n m cells p u v) 0),
    )

-- plot_check_pairing: nothing is left open.
pub one_check : (n m : ℕ) (cells p u v : List ℕ) {r₁ r₂ : ℕ} → r₁ ≡ check_answer n m cells p u v → r₂ ≡ check_answer n m cells p u v → r₁ ≡ r₂
one_check n m cells p u v R Q = R ∙ sym Q
