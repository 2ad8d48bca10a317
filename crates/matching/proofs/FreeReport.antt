-- A pairing to which a track left out and a report that no track has are added.
use Prim.Native.Nat.{ℕ, ◌≤◌, ◌<◌}
use mathlib.Core.Path.{◌≡◌, refl, sym, ◌∙◌}
use mathlib.Core.Bool.{Bool, true, false, cond, not}
use mathlib.Core.Logic.{◌⊎◌, inl, inr, ⊎_elim}
use native.Mathlib.Omega.{arith}
use native.Mathlib.Nat.{le_refl}
use lib.Dec.{eqb}
use borrow.Author.Tests.{eq-eqb, ne_eqb, eqb-true, eqb-false, not-true, not-false}
use Rattle.laws.proofs.Sums.{bit_small, sum_less}
use Rattle.laws.proofs.Tests.{each_or_one, each_at}
use Rattle.matching.specs.Pairing.{none, Sheet, Admissible, ValidPairing, pairs, Best}

-- P, and report j for track i
abbrev with : ℕ → ℕ → (ℕ → ℕ) → ℕ → ℕ
with i j P k = cond (eqb k i) j (P k)

module _ (S : Sheet) (P : ℕ → ℕ) (i j : ℕ) (p : ValidPairing S P) (li : i < S.tracks) (lj : j < S.reports) (a : Admissible S i j) (unused : (k : ℕ) → k < S.tracks → P k ≡ j → ⊥) where
  with_valid : ValidPairing S (with i j P)
  with_valid =
      record {
        there = λ k l d. there k l (eqb k i) d;
        admissible = λ k l d. admissible k l (eqb k i) refl d;
        once = λ k h lk lh d e. once k h lk lh (eqb k i) refl (eqb h i) refl d e;
      }
    where
      there : (k : ℕ) → k < S.tracks → (b : Bool) → (cond b j (P k) ≡ none → ⊥) → cond b j (P k) < S.reports
      there k l true d = lj
      there k l false d = p.there k l d

      admissible : (k : ℕ) → k < S.tracks → (b : Bool) → eqb k i ≡ b → (cond b j (P k) ≡ none → ⊥) → Admissible S k (cond b j (P k))
      admissible k l true e d = rw (eqb-true k i e) a
      admissible k l false e d = p.admissible k l d

      once : (k h : ℕ) → k < S.tracks → h < S.tracks → (b : Bool) → eqb k i ≡ b → (c : Bool) → eqb h i ≡ c → (cond b j (P k) ≡ none → ⊥) → cond b j (P k) ≡ cond c j (P h) → k ≡ h
      once k h lk lh true eb true ec d e = eqb-true k i eb ∙ sym (eqb-true h i ec)
      once k h lk lh true eb false ec d e = absurd (unused h lh (sym e))
      once k h lk lh false eb true ec d e = absurd (unused k lk e)
      once k h lk lh false eb false ec d e = p.once k h lk lh d e

  with_more : P i ≡ none → (j ≡ none → ⊥) → pairs S P < pairs S (with i j P)
  unfolding pairs
  with_more e d = sum_less S.tracks i _ _ li (rw (eq-eqb i i refl, eq-eqb (P i) none e, ne_eqb j none d) (omega arith)) (λ k l. others k (eqb k i) refl)
    where
      others : (k : ℕ) (b : Bool) → eqb k i ≡ b → cond (eqb (P k) none) 0 1 ≤ cond (eqb (cond b j (P k)) none) 0 1
      others k true eb = rw (ne_eqb j none d) (bit_small (eqb (P k) none))
      others k false eb = le_refl _

-- no track has report j, or one has
has? : (n j : ℕ) (P : ℕ → ℕ) → ((k : ℕ) → k < n → P k ≡ j → ⊥) ⊎ ((k : ℕ) × ((k < n) × (P k ≡ j)))
has? n j P =
    ⊎_elim (λ a. inl (λ k l. eqb-false (P k) j (not-true _ (each_at _ n k a l))))
    (λ w. inr (w.0, (w.1.0, eqb-true (P w.0) j (not-false _ w.1.1))))
    (each_or_one (λ k. not (eqb (P k) j)) n)

-- A track that a best pairing leaves out has no admissible report that is unused: some track has it.
pub no_free_report : (S : Sheet) (P : ℕ → ℕ) → Best S P → S.reports ≤ none → (i j : ℕ) → i < S.tracks → P i ≡ none → j < S.reports → Admissible S i j → (k : ℕ) × ((k < S.tracks) × (P k ≡ j))
no_free_report S P b few i j li e lj a =
    ⊎_elim
    (λ unused. absurd (b.most (with i j P) (with_valid S P i j b.valid li lj a unused) (with_more S P i j b.valid li lj a unused e (λ z. omega arith))))
    (λ w. w)
    (has? S.tracks j P)
