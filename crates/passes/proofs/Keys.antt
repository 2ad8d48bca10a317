-- A score or label and its report in one key.
use Prim.Native.Nat.{ℕ, ◌+◌, ◌*◌, ◌/◌, ◌%◌, ◌≤◌, ◌<◌, min}
use mathlib.Core.Path.{◌≡◌, refl, sym}
use mathlib.Core.Logic.{⊎_elim}
use mathlib.Core.List.{List}
use native.Mathlib.Omega.{arith}
use Rattle.laws.specs.Lists.{at}
use Rattle.matching.specs.Pairing.{none, score_end, left_out}
use lib.ListN.{length}
use Rattle.laws.proofs.Stores.{le_or_lt}
use Rattle.passes.specs.Cells.{IsCell, key_scores, key_places, key, Keyed, RowLeast}

pub key_is : (cell k : ℕ) → key cell k ≡ cell % key_scores * key_places + k
unfolding key
key_is cell k = refl

whole_part : (r a k : ℕ) → r ≡ a * key_places + k → k < key_places → r / key_places ≡ a
whole_part r a k e h = let p : r / key_places ≤ a = omega arith in
    let q : a ≤ r / key_places = omega arith in
    omega arith

module _ (cells : List ℕ) (few : length cells ≤ key_places) (cells_good : (k : ℕ) → k < length cells → IsCell (at cells k)) (r : ℕ) (K : Keyed cells r) where
  -- no score at all
  pub best_none : score_end ≤ r / key_places → RowLeast cells left_out 0
  best_none h = record {
    capped = omega arith;
    below = λ k g. ⊎_elim (λ s. absurd (omega (arith, K.below k g, key_is (at cells k) k))) (λ e. omega arith) (cells_good k g);
    met = λ g. absurd (omega arith);
  }

  here : r / key_places < score_end → (k : ℕ) → k < length cells → r ≡ key (at cells k) k → (r % key_places < length cells) × (at cells (r % key_places) ≡ r / key_places)
  here h k g e = ⊎_elim
      (λ (s : at cells k < score_end).
      let d : r / key_places ≡ at cells k = whole_part r (at cells k) k (omega (arith, key_is (at cells k) k)) (omega arith) in
      let q : r % key_places ≡ k = omega (arith, key_is (at cells k) k) in
      rw q (g, sym d))
      (λ (z : at cells k ≡ none). absurd (omega (arith, key_is (at cells k) k))) (cells_good k g)

  pub best_one : r / key_places < score_end → RowLeast cells (r / key_places) (r % key_places)
  best_one h = record {
    capped = omega arith;
    below = λ k g. omega (arith, K.below k g, key_is (at cells k) k);
    met = λ g. ⊎_elim (λ e. absurd (omega arith)) (λ s. here h s.0 s.1.0 s.1.1) K.met;
  }

-- ---- the lesser of two

pub met_by_min : (P : ℕ → Type 0) (best next r : ℕ) → r ≡ min best next → P best → P next → P r
met_by_min P best next r e b n = ⊎_elim
    (λ (l : best ≤ next). let q : r ≡ best = omega arith in rw q b)
    (λ (l : next < best). let q : r ≡ next = omega arith in rw q n) (le_or_lt best next)
