-- What the pairing call's promise is worth: for n tracks, m reports and a sheet's cells, with the lists lent for pairing, prices, discounts.
use Prim.Native.Nat.{ℕ, ◌≤◌}
use mathlib.Core.Path.{◌≡◌, ap, sym, ◌∙◌}
use mathlib.Core.List.{List}
use native.Mathlib.Omega.{arith}
use lib.ListN.{length, drop, length-drop}
use Rattle.laws.specs.Lists.{at}
use Rattle.matching.specs.Pairing.{Agree, Best, sheet_of}
use Rattle.matching.specs.Answer.{Fits, check_answer}
use Rattle.matching.proofs.Theorems.{zero_certificate, zero_is_best, best_is_zero, best_agree}
use Rattle.engine.specs.Call.{pairing_refusal, Paired, SheetPaired, PairsSheet}

module _ {n m : ℕ} {cells pairing prices discounts pairing' prices' discounts' : List ℕ} (R : SheetPaired n m cells pairing prices discounts pairing' prices' discounts') where
  -- The pairing that is written is best.
  pub written_is_best : Best (sheet_of n m cells) (at pairing')
  written_is_best = zero_is_best n m cells pairing' prices' discounts' R.accepted

  -- With the prices and discounts that are written, the check accepts every best pairing of the sheet.
  pub accepts_every_best : (q : List ℕ) → n ≤ length q → Best (sheet_of n m cells) (at q) → check_answer n m cells q prices' discounts' ≡ 0
  accepts_every_best q l b = best_is_zero n m cells pairing' q prices' discounts' R.accepted l b

  -- what is written is long enough
  fits : Fits n m cells pairing' prices' discounts'
  fits = (zero_certificate n m cells pairing' prices' discounts' R.accepted).0

-- Two results of one call: the same answer; refused, the same lists; served, the same number of pairs and the same sum of scores, and every
-- entry beyond the first. Which best pairing, and which prices, is all that is left open.
pub record SameCall (n m : ℕ) (cells pairing prices discounts pairing₁ prices₁ discounts₁ : List ℕ) (answer₁ : Paired) (pairing₂ prices₂ discounts₂ : List ℕ) (answer₂ : Paired) : Type 0 where
  pub answers : answer₁ ≡ answer₂
  pub refused : (pairing_refusal n m cells pairing prices discounts ≡ 0 → ⊥) → (pairing₁ ≡ pairing₂) × ((prices₁ ≡ prices₂) × (discounts₁ ≡ discounts₂))
  pub served : pairing_refusal n m cells pairing prices discounts ≡ 0 → Agree (sheet_of n m cells) (at pairing₁) (at pairing₂)
  pub lengths : pairing_refusal n m cells pairing prices discounts ≡ 0 → (length pairing₁ ≡ length pairing₂) × ((length prices₁ ≡ length prices₂) × (length discounts₁ ≡ length discounts₂))
  pub beyond : pairing_refusal n m cells pairing prices discounts ≡ 0 → (drop n pairing₁ ≡ drop n pairing₂) × ((drop n prices₁ ≡ drop n prices₂) × (drop m discounts₁ ≡ drop m discounts₂))

-- lists of at least n entries that agree beyond them are equally long
as_long : (n : ℕ) (x y : List ℕ) → n ≤ length x → n ≤ length y → drop n x ≡ drop n y → length x ≡ length y
as_long n x y h g e = omega (arith, ap length e, length-drop n x, length-drop n y)

pub same_call : (n m : ℕ) (cells pairing prices discounts pairing₁ prices₁ discounts₁ : List ℕ) (answer₁ : Paired) (pairing₂ prices₂ discounts₂ : List ℕ) (answer₂ : Paired) → PairsSheet n m cells pairing prices discounts pairing₁ prices₁ discounts₁ answer₁ → PairsSheet n m cells pairing prices discounts pairing₂ prices₂ discounts₂ answer₂ → SameCall n m cells pairing prices discounts pairing₁ prices₁ discounts₁ answer₁ pairing₂ prices₂ discounts₂ answer₂
same_call n m cells pairing prices discounts pairing₁ prices₁ discounts₁ answer₁ pairing₂ prices₂ discounts₂ answer₂ R Q =
    record {
      answers = R.answered ∙ sym Q.answered;
      refused = λ d.
          let x = R.refused d in
          let y = Q.refused d in
          (x.0 ∙ sym y.0, (x.1.0 ∙ sym y.1.0, x.1.1 ∙ sym y.1.1));
      served = λ e. best_agree (sheet_of n m cells) (at pairing₁) (at pairing₂) (written_is_best (R.served e)) (written_is_best (Q.served e));
      lengths = λ e.
          let x = fits (R.served e) in
          let y = fits (Q.served e) in
          let b = beyond e in (
            as_long n pairing₁ pairing₂ x.pairing_long y.pairing_long b.0,
            (as_long n prices₁ prices₂ x.prices_long y.prices_long b.1.0, as_long m discounts₁ discounts₂ x.discounts_long y.discounts_long b.1.1),
          );
      beyond = beyond;
    }
  where
    beyond : pairing_refusal n m cells pairing prices discounts ≡ 0 → (drop n pairing₁ ≡ drop n pairing₂) × ((drop n prices₁ ≡ drop n prices₂) × (drop m discounts₁ ≡ drop m discounts₂))
    beyond e =
        let x = R.served e in
        let y = Q.served e in
        (x.pairing_beyond ∙ sym y.pairing_beyond, (x.prices_beyond ∙ sym y.prices_beyond, x.discounts_beyond ∙ sym y.discounts_beyond))
