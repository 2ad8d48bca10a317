-- Prices and discounts against totals: no valid pairing's total is below what fair prices come to; and a least total is just a best
-- pairing, since no scores come to as much as one track left out.
use Prim.Native.Nat.{ℕ, zero, suc, ◌+◌, ◌-◌, ◌*◌, ◌≤◌, ◌<◌, zero-le}
use mathlib.Core.Path.{◌≡◌, refl}
use mathlib.Core.Bool.{Bool, true, false, cond}
use mathlib.Core.Logic.{⊎_elim}
use native.Mathlib.Omega.{arith}
use native.Mathlib.Nat.{eq-or-lt_of_le, lt-suc_self, mul-le-mul_right}
use lib.Dec.{eqb, ltb}
use borrow.Author.Tests.{eq-eqb, ne_eqb, eqb-false, lt-ltb}
use Rattle.laws.specs.Sums.{sum}
use Rattle.laws.proofs.Sums.{sum_le, sum_add, sum_under, sum_less, sum_zero, sum_injective, count_both}
use Rattle.matching.specs.Pairing.{none, score_end, left_out, most_tracks, Sheet, InRange, HasReport, ValidPairing, pairs, missed_tracks, score_or, sum_of_scores, total, Best, FairPrices}

-- The highest scores of as many tracks as there may be come to less than one track left out: no saving in scores pays for that.
pub leaving_out_is_never_cheap : most_tracks * (score_end - 1) < left_out
leaving_out_is_never_cheap = omega arith

-- ---- prices

-- a track left out is given the number m, of no report
abbrev named : ℕ → ℕ → ℕ
named m x = cond (eqb x none) m x

-- the prices are at most the total and the discounts, whatever the pairing
pub prices_under : (S : Sheet) (Q u v : ℕ → ℕ) → ValidPairing S Q → FairPrices S u v → sum S.tracks u ≤ total S Q + sum S.reports v
unfolding total
prices_under S Q u v q f =
    let a : sum n u ≤ sum n (λ i. score_or left_out S Q i + off i) = sum_le n u _ (λ i l. track i l (eqb (Q i) none) refl) in
    let b : sum n off ≤ sum m v = sum_injective n m (λ i. named m (Q i)) v (λ i k li lk l e. once i k li lk (eqb (Q i) none) refl (eqb (Q k) none) refl l e) in
    omega (arith, sum_add n (score_or left_out S Q) off)
  where
    n : ℕ
    n = S.tracks

    m : ℕ
    m = S.reports

    -- the discount of track i's report
    off : ℕ → ℕ
    off i = cond (ltb (named m (Q i)) m) (v (named m (Q i))) 0

    once : (i k : ℕ) → i < n → k < n → (b : Bool) → eqb (Q i) none ≡ b → (d : Bool) → eqb (Q k) none ≡ d → cond b m (Q i) < m → cond b m (Q i) ≡ cond d m (Q k) → i ≡ k
    once i k li lk true eb d ed l e = absurd (omega arith)
    once i k li lk false eb true ed l e = absurd (omega arith)
    once i k li lk false eb false ed l e = q.once i k li lk (eqb-false (Q i) none eb) e

    track : (i : ℕ) → i < n → (b : Bool) → eqb (Q i) none ≡ b → u i ≤ cond b left_out (S.cell i (Q i)) + cond (ltb (cond b m (Q i)) m) (v (cond b m (Q i))) 0
    track i l true e = omega (arith, f.price i l)
    track i l false e =
        let d : HasReport Q i = eqb-false (Q i) none e in
        rw (lt-ltb (Q i) m (q.there i l d)) (f.under i (Q i) l (q.there i l d) (q.admissible i l d))

-- ---- totals

-- the total, with left_out for each pair: the scores, with left_out for each track
split_at : (n : ℕ) (b : ℕ → Bool) (c : ℕ → ℕ) → sum n (λ i. cond (b i) left_out (c i)) + left_out * sum n (λ i. cond (b i) 0 1) ≡ sum n (λ i. cond (b i) 0 (c i)) + left_out * n
unfolding sum
split_at zero b c = refl
split_at (suc n) b c = go (b n) (split_at n b c)
  where
    A : ℕ
    A = sum n (λ i. cond (b i) left_out (c i))

    B : ℕ
    B = sum n (λ i. cond (b i) 0 1)

    C : ℕ
    C = sum n (λ i. cond (b i) 0 (c i))

    go : (t : Bool) → A + left_out * B ≡ C + left_out * n → (A + cond t left_out (c n)) + left_out * (B + cond t 0 1) ≡ (C + cond t 0 (c n)) + left_out * suc n
    go true h = omega arith
    go false h = omega arith

pub total_split : (S : Sheet) (P : ℕ → ℕ) → total S P + left_out * pairs S P ≡ sum_of_scores S P + left_out * S.tracks
unfolding total pairs sum_of_scores
total_split S P = split_at S.tracks (λ i. eqb (P i) none) (λ i. S.cell i (P i))

-- each track has a report or is left out
pub pairs_and_misses : (S : Sheet) (P : ℕ → ℕ) → pairs S P + missed_tracks S P ≡ S.tracks
unfolding pairs missed_tracks
pairs_and_misses S P = count_both S.tracks (λ i. eqb (P i) none)

-- no track is left out, by the count and one by one
pub misses_none : (S : Sheet) (P : ℕ → ℕ) → ((i : ℕ) → i < S.tracks → HasReport P i) → missed_tracks S P ≡ 0
unfolding missed_tracks
misses_none S P all = sum_zero S.tracks _ (λ i l. rw (ne_eqb (P i) none (all i l)))

pub no_misses : (S : Sheet) (P : ℕ → ℕ) → missed_tracks S P ≡ 0 → (i : ℕ) → i < S.tracks → HasReport P i
unfolding missed_tracks
no_misses S P z i l e =
    omega (arith, sum_less S.tracks i (λ k. 0) (λ k. cond (eqb (P k) none) 1 0) l (rw (eq-eqb (P i) none e) (lt-suc_self 0)) (λ k h. zero-le))

-- the scores of a valid pairing come to less than one track left out
pub scores_stay_under : (S : Sheet) (P : ℕ → ℕ) → InRange S → ValidPairing S P → sum_of_scores S P < left_out
unfolding sum_of_scores
scores_stay_under S P r p =
    let a : sum S.tracks (score_or 0 S P) ≤ S.tracks * (score_end - 1) =
    sum_under S.tracks (score_end - 1) _ (λ i l. score i l (eqb (P i) none) refl) in
    let b : S.tracks * (score_end - 1) ≤ most_tracks * (score_end - 1) = mul-le-mul_right (score_end - 1) r.tracks_few in
    omega (arith, leaving_out_is_never_cheap)
  where
    score : (i : ℕ) → i < S.tracks → (b : Bool) → eqb (P i) none ≡ b → cond b 0 (S.cell i (P i)) ≤ score_end - 1
    score i l true e = zero-le
    score i l false e =
        let d : HasReport P i = eqb-false (P i) none e in
        omega (arith, r.scores i (P i) l (p.there i l d) (p.admissible i l d))

-- A valid pairing of least total is best, and a best pairing has the least total.
pub least_total_is_best : (S : Sheet) (P : ℕ → ℕ) → InRange S → ValidPairing S P → ((Q : ℕ → ℕ) → ValidPairing S Q → total S P ≤ total S Q) → Best S P
least_total_is_best S P r p h =
    record {
      valid = p;
      most = λ Q q l. omega (arith, h Q q, total_split S P, total_split S Q, scores_stay_under S Q r q);
      least = λ Q q e l. omega (arith, h Q q, total_split S P, total_split S Q);
    }

pub at_most : {a b : ℕ} → (b < a → ⊥) → a ≤ b
at_most h = omega arith

pub best_has_least_total : (S : Sheet) (P Q : ℕ → ℕ) → InRange S → Best S P → ValidPairing S Q → total S P ≤ total S Q
best_has_least_total S P Q r b q =
    ⊎_elim
    (λ e. let l : sum_of_scores S P ≤ sum_of_scores S Q = at_most (b.least Q q e) in omega (arith, total_split S P, total_split S Q))
    (λ l. omega (arith, total_split S P, total_split S Q, scores_stay_under S P r b.valid))
    (eq-or-lt_of_le (at_most (b.most Q q)))
