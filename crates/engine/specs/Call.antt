-- 01, 'Pairing': the call that gives the pairing, prices and discounts of any sheet.
use Rattle.std.specs.Prelude.{ℕ, ◌≡◌, List, length, drop, Result}
use Rattle.matching.specs.declared.Fault.{Fault}
use Rattle.matching.specs.Answer.{sheet_refusal, check_answer, answer_by}

-- the number of the refusal, 21 then 22, or 0: by n tracks, m reports, the sheet's cells and the lengths of the result lists
abbrev pub pairing_refusal : (n m : ℕ) (cells pairing prices discounts : List ℕ) → ℕ
pairing_refusal n m cells pairing prices discounts = sheet_refusal n m cells (length pairing) (length prices) (length discounts) 0

-- the call's answer: the fault for which it is refused, or the lists are written
abbrev pub Paired : Type 0
Paired = Result (Unit {0}) Fault

-- the answer that stands for a number
abbrev pub paired_by : ℕ → Paired
paired_by = answer_by

-- a call that is served: the check accepts what is written, and beyond the first entries each list is as before
pub record SheetPaired (n m : ℕ) (cells pairing prices discounts pairing' prices' discounts' : List ℕ) : Type 0 where
  pub accepted : check_answer n m cells pairing' prices' discounts' ≡ 0
  pub pairing_beyond : drop n pairing' ≡ drop n pairing
  pub prices_beyond : drop n prices' ≡ drop n prices
  pub discounts_beyond : drop m discounts' ≡ drop m discounts

-- the lists before the call, and after it
pub record PairsSheet (n m : ℕ) (cells pairing prices discounts pairing' prices' discounts' : List ℕ) (answer : Paired) : Type 0 where
  pub answered : answer ≡ paired_by (pairing_refusal n m cells pairing prices discounts)
  pub refused : (pairing_refusal n m cells pairing prices discounts ≡ 0 → ⊥) → (pairing' ≡ pairing) × ((prices' ≡ prices) × (discounts' ≡ discounts))
  pub served : pairing_refusal n m cells pairing prices discounts ≡ 0 → SheetPaired n m cells pairing prices discounts pairing' prices' discounts'
