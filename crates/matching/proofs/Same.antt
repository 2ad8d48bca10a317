-- A pairing is what it says of the tracks that are there; so lists of report numbers do for functions.
use Prim.Native.Nat.{ℕ, ◌≤◌}
use mathlib.Core.Path.{◌≡◌, sym, ◌∙◌, ap}
use mathlib.Core.Bool.{cond}
use mathlib.Core.List.{List}
use native.Mathlib.Nat.{le_of_eq}
use lib.Dec.{eqb}
use lib.ListN.{length}
use Rattle.laws.specs.Lists.{at, listed}
use Rattle.laws.proofs.Listed.{length_listed, listed_at}
use Rattle.laws.proofs.Sums.{sum_same}
use Rattle.matching.specs.Pairing.{none, Sheet, ValidPairing, pairs, sum_of_scores, Best, Alike, BestList}

module _ (S : Sheet) (P Q : ℕ → ℕ) (a : Alike S.tracks P Q) where
  pub valid_same : ValidPairing S P → ValidPairing S Q
  valid_same p =
      record {
        there = λ i l d. rw (a i l) at (p.there i l (λ z. d (sym (a i l) ∙ z)));
        admissible = λ i l d. rw (a i l) at (p.admissible i l (λ z. d (sym (a i l) ∙ z)));
        once = λ i k li lk d q. p.once i k li lk (λ z. d (sym (a i li) ∙ z)) (a i li ∙ q ∙ sym (a k lk));
      }

  pub pairs_same : pairs S P ≡ pairs S Q
  unfolding pairs
  pairs_same = sum_same S.tracks _ _ (λ i l. ap (λ x. cond (eqb x none) 0 1) (a i l))

  pub scores_same : sum_of_scores S P ≡ sum_of_scores S Q
  unfolding sum_of_scores
  scores_same = sum_same S.tracks _ _ (λ i l. ap (λ x. cond (eqb x none) 0 (S.cell i x)) (a i l))

-- P 0, P 1, .. as a list
list_at : (n : ℕ) (P : ℕ → ℕ) → Alike n P (at (listed n P))
list_at n P i l = sym (listed_at n P i 0 l)

module _ (S : Sheet) (p : List ℕ) where
  pub list_is_best : BestList S p → Best S (at p)
  list_is_best b =
      record {
        valid = b.valid;
        most = λ Q q l. b.most (list Q) (long Q) (as_list Q q) (rw (pairs_same S Q (at (list Q)) (list_at _ Q)) at l);
        least = λ Q q e l.
            b.least (list Q) (long Q) (as_list Q q) (sym (pairs_same S Q (at (list Q)) (list_at _ Q)) ∙ e) (rw (scores_same S Q (at (list Q)) (list_at _ Q)) at l);
      }
    where
      list : (ℕ → ℕ) → List ℕ
      list Q = listed S.tracks Q

      long : (Q : ℕ → ℕ) → S.tracks ≤ length (list Q)
      long Q = le_of_eq (sym (length_listed S.tracks Q))

      as_list : (Q : ℕ → ℕ) → ValidPairing S Q → ValidPairing S (at (list Q))
      as_list Q = valid_same S Q (at (list Q)) (list_at _ Q)

  pub best_is_list : S.tracks ≤ length p → Best S (at p) → BestList S p
  best_is_list l b = record { long = l; valid = b.valid; most = λ q lq. b.most (at q); least = λ q lq. b.least (at q) }
