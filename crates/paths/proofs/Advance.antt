-- One step of the search: report j is closed at its label, and its owner o offers from there.
use Prim.Native.Nat.{ℕ, zero, suc, ◌+◌, ◌≤◌, ◌<◌}
use mathlib.Core.Path.{◌≡◌, refl, ap}
use mathlib.Core.List.{List, [], ◌∷◌}
use mathlib.Core.Logic.{◌⊎◌, inl, inr, ⊎_elim}
use native.Mathlib.Omega.{arith}
use native.Mathlib.Nat.{not-suc-le-zero, le_of_suc-le-suc}
use lib.ListN.{length, set, length-set}
use lib.Seq.{get_or-set_same, get_or-set_other}
use Rattle.laws.specs.Lists.{at}
use Rattle.matching.specs.Pairing.{left_out}
use Rattle.passes.specs.Cells.{far}
use Rattle.paths.specs.State.{cell, open_count, closed_at, Prices, Own, Closed, Link, Leaves, Tree, Offered}
use Rattle.laws.proofs.Stores.{same_or}

open_count_set : (xs : List ℕ) (j v : ℕ) → j < length xs → at xs j ≡ 0 → 0 < v → open_count (set xs j v) + 1 ≡ open_count xs
unfolding open_count
open_count_set [] j v h z p = absurd (not-suc-le-zero h)
open_count_set (x ∷ xs) zero (suc v) h z p = rw z (omega arith)
open_count_set (x ∷ xs) zero zero h z p = absurd (not-suc-le-zero p)
open_count_set (x ∷ xs) (suc j) v h z p = omega (arith, open_count_set xs j v (le_of_suc-le-suc h) z p)

pub open_count_all : (xs : List ℕ) → ((k : ℕ) → k < length xs → at xs k ≡ 0) → open_count xs ≡ length xs
unfolding open_count
open_count_all [] f = refl
open_count_all (x ∷ xs) f = rw (f zero (omega arith)) (omega (arith, open_count_all xs (λ k h. f (suc k) (omega arith))))

-- report j is closed
module _ {cells : List ℕ} {m n : ℕ} {pairing owner prices discounts : List ℕ} {track leaving leaver k : ℕ} {labels via closings : List ℕ}
    (T : Tree cells m n pairing owner prices discounts track leaving leaver k labels via closings) {j : ℕ} (jm : j < m) (jo : at closings j ≡ 0) where
  abbrev closings' : List ℕ
  closings' = closed_at closings j k

  pub closings_j : at closings' j ≡ far + k
  closings_j = get_or-set_same closings j (far + k) 0 (omega (arith, T.closings_long))

  closings_o : (e : ℕ) → (e ≡ j → ⊥) → at closings' e ≡ at closings e
  closings_o e h = get_or-set_other closings j e (far + k) 0 h

  -- what is closed now is j or was closed
  was : (c : ℕ) → c < m → far ≤ at closings' c → (c ≡ j) ⊎ ((c ≡ j → ⊥) × (far ≤ at closings c))
  was c h s = ⊎_elim inl (λ d. inr (d, omega (arith, closings_o c d))) (same_or c j)

  pub low_now : (c : ℕ) → c < m → far ≤ at closings' c → at labels c ≤ at labels j
  low_now c h s = ⊎_elim (λ e. omega (arith, ap (at labels) e)) (λ d. T.sorted c j h jm d.1 jo) (was c h s)

  open_was : (e : ℕ) → e < m → at closings' e ≡ 0 → (e ≡ j → ⊥) × (at closings e ≡ 0)
  open_was e h z = ⊎_elim (λ d. absurd (omega (arith, closings_j, ap (at closings') d))) (λ d. (d, omega (arith, closings_o e d))) (same_or e j)

  -- what was closed is closed, with the same number
  pub still : (c : ℕ) → far ≤ at closings c → at closings' c ≡ at closings c
  still c s = closings_o c (λ e. omega (arith, jo, ap (at closings) e))

  pub open_or_closed' : (e : ℕ) → e < m → (at closings' e ≡ 0) ⊎ ((far ≤ at closings' e) × (at closings' e < far + (k + 1)))
  open_or_closed' e h =
      ⊎_elim (λ d. inr (omega (arith, closings_j, ap (at closings') d), omega (arith, closings_j, ap (at closings') d)))
      (λ d. ⊎_elim (λ z. inl (omega (arith, closings_o e d))) (λ s. inr (omega (arith, closings_o e d), omega (arith, closings_o e d))) (T.open_or_closed e h))
      (same_or e j)

  pub link_closed : (c i : ℕ) → Link cells m n pairing prices discounts track labels closings c i → Link cells m n pairing prices discounts track labels closings' c i
  link_closed c i x = record {
    there = x.there;
    admissible = x.admissible;
    how = ⊎_elim inl
        (λ a.
        let q = still (at pairing i) a.1.0 in
        inr (
          a.0,
          (
            omega (arith, a.1.0),
            (
              ⊎_elim
                  (λ d. inr (⊎_elim (λ z. absurd (omega (arith, a.1.0))) (λ b. omega (arith, closings_j, ap (at closings') d)) (T.open_or_closed (at pairing i) a.0)))
                  (λ d. ⊎_elim (λ z. inl (omega (arith, closings_o c d))) (λ b. inr (omega (arith, closings_o c d))) a.1.1.0)
                  (same_or c j),
              a.1.1.1,
            ),
          ),
        ))
        x.how;
  }

  -- and its owner has offered
  module _ (P : Prices cells m n prices discounts) (jl : at labels j < leaving)
      (near : (e : ℕ) → e < m → at closings e ≡ 0 → at labels j ≤ at labels e)
      (own : Own cells m n pairing prices discounts j (at owner j))
      {leaving' leaver' : ℕ} (less : leaving' ≤ leaving) (leave : leaving' + at prices (at owner j) ≤ at labels j + left_out) (far-on : at labels j ≤ leaving')
      (which : ((leaving' ≡ leaving) × (leaver' ≡ leaver)) ⊎ ((leaving' + at prices (at owner j) ≡ at labels j + left_out) × (leaver' ≡ at owner j)))
      {labels' via' : List ℕ} (S : Offered cells m discounts (at labels j) (at prices (at owner j)) (at owner j) labels via labels' via') where
    abbrev o : ℕ
    o = at owner j

    -- an offer is never below the label of j
    offered : (e : ℕ) → e < m → (at labels' e ≡ at labels e) ⊎ (at labels j ≤ at labels' e)
    offered e h = ⊎_elim (λ s. inl s.0) (λ s. inr (omega (arith, s.1.0, P.fair o e own.there h s.0))) (S.steps e h).why

    -- a label at or below j's stays, and so does its via
    stays : (e : ℕ) → e < m → at labels e ≤ at labels j → (at labels' e ≡ at labels e) × (at via' e ≡ at via e)
    stays e h l = ⊎_elim (λ s. s) (λ s. absurd (omega (arith, s.1.0, s.1.1.0, P.fair o e own.there h s.0))) (S.steps e h).why

    label : (c : ℕ) → c < m → far ≤ at closings' c → at labels' c ≡ at labels c
    label c h s = (stays c h (low_now c h s)).0

    label_j : at labels' j ≡ at labels j
    label_j = (stays j jm (omega arith)).0

    o_closed : far ≤ at closings' (at pairing o)
    o_closed = rw own.back (omega (arith, closings_j))

    o_label : at labels' (at pairing o) ≡ at labels j
    o_label = rw own.back label_j

    closed_j : Closed cells m n pairing prices discounts leaving' labels' j o
    closed_j = record {
      own = own;
      low = omega (arith, label_j);
      seen = λ e h a. omega (arith, (S.steps e h).at_most a, label_j);
      leave = omega (arith, label_j);
    }

    closed_c : (c : ℕ) → c < m → far ≤ at closings' c → far ≤ at closings c → Closed cells m n pairing prices discounts leaving' labels' c (at owner c)
    closed_c c h s t =
        let x = T.closed c h t in
        record {
          own = x.own;
          low = omega (arith, label c h s, low_now c h s);
          seen = λ e g a. omega (arith, x.seen e g a, (S.steps e g).less, label c h s);
          leave = omega (arith, x.leave, label c h s);
        }

    closed' : (c : ℕ) → c < m → far ≤ at closings' c → Closed cells m n pairing prices discounts leaving' labels' c (at owner c)
    closed' c h s = ⊎_elim (λ d. rw d closed_j) (λ d. closed_c c h s d.1) (was c h s)

    sorted' : (c e : ℕ) → c < m → e < m → far ≤ at closings' c → at closings' e ≡ 0 → at labels' c ≤ at labels' e
    sorted' c e h g s z =
        ⊎_elim (λ d. omega (arith, label c h s, low_now c h s, near e g (open_was e g z).1))
        (λ d. omega (arith, label c h s, low_now c h s)) (offered e g)

    last' : Leaves m n pairing prices track labels' closings' leaving' leaver'
    last' =
        ⊎_elim
        (λ p. ⊎_elim (λ a. inl (omega arith, omega arith))
        (λ a. inr (rw p.1 (
          a.0,
          (
            a.1.0,
            (
              omega (arith, a.1.1.0, still (at pairing leaver) a.1.1.0),
              omega (arith, p.0, a.1.1.1, label (at pairing leaver) a.1.0 (omega (arith, a.1.1.0, still (at pairing leaver) a.1.1.0))),
            ),
          ),
        )))
        T.last)
        (λ p. inr (rw p.1 (own.there, (rw own.back jm, (o_closed, omega (arith, p.0, o_label))))))
        which

    link_old : (c : ℕ) → at labels' c ≡ at labels c → (i : ℕ) → Link cells m n pairing prices discounts track labels closings c i → Link cells m n pairing prices discounts track labels' closings' c i
    link_old c same i x =
        let y = link_closed c i x in
        record {
          there = y.there;
          admissible = y.admissible;
          how = ⊎_elim (λ a. inl (a.0, omega (arith, a.1))) (λ a. inr (a.0, (a.1.0, (a.1.1.0, omega (arith, a.1.1.1, label (at pairing i) a.0 a.1.0))))) y.how;
        }

    link_new : (c : ℕ) → c < m → cell cells m o c < far → at labels' c + at prices o ≡ at labels j + cell cells m o c + at discounts c → at labels' c < at labels c
        → Link cells m n pairing prices discounts track labels' closings' c o
    link_new c h a e l = record {
      there = own.there;
      admissible = a;
      how = inr (
        rw own.back jm,
        (
          o_closed,
          (
            ⊎_elim inl (λ b. absurd (omega (arith, label c h b.0))) (open_or_closed' c h),
            omega (arith, o_label),
          ),
        ),
      );
    }

    links' : (c : ℕ) → c < m → at labels' c < left_out → Link cells m n pairing prices discounts track labels' closings' c (at via' c)
    links' c h l =
        ⊎_elim (λ s. rw s.1 (link_old c s.0 (at via c) (T.links c h (omega (arith, s.0)))))
        (λ s. rw s.1.1.1 (link_new c h s.0 s.1.0 s.1.1.0))
        (S.steps c h).why

    pub advance : Tree cells m n pairing owner prices discounts track leaving' leaver' (k + 1) labels' via' closings'
    advance = record {
      labels_long = S.labels_long;
      via_long = S.via_long;
      closings_long = simp length-set T.closings_long;
      labels_in = λ e h. omega (arith, (S.steps e h).less, T.labels_in e h);
      open_or_closed = open_or_closed';
      root = λ e h a. omega (arith, T.root e h a, (S.steps e h).less);
      closed = closed';
      sorted = sorted';
      under = λ c h s. omega (arith, label c h s, low_now c h s, T.leaving_in);
      leaving_in = omega (arith, T.leaving_in);
      last = last';
      links = links';
      count = omega (arith, T.count, open_count_set closings j (far + k) (omega (arith, T.closings_long)) jo (omega arith));
    }
