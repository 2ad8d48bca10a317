-- What the engine ends with is a certificate: each track's price is its score and its report's discount, and only paired reports have one.
use Prim.Native.Nat.{ℕ, zero, suc, ◌+◌, ◌*◌, ◌≤◌, ◌<◌}
use mathlib.Core.Path.{◌≡◌, refl, ap, sym, ◌∙◌}
use mathlib.Core.List.{List}
use mathlib.Core.Bool.{cond}
use mathlib.Core.Logic.{⊎_elim}
use native.Mathlib.Omega.{arith}
use lib.Dec.{ltb, eqb}
use lib.ListN.{length}
use borrow.Author.Tests.{lt-ltb, le-ltb, eq-eqb, ne_eqb}
use Rattle.laws.specs.Sums.{sum}
use Rattle.laws.proofs.Sums.{sum_same, sum_add, sum_zero, sum_one, row_in}
use Rattle.laws.proofs.Stores.{le_or_lt, same_or}
use Rattle.laws.specs.Lists.{at}
use Rattle.matching.specs.Pairing.{none, score_end, left_out, Sheet, Admissible, HasReport, ValidPairing, score_or, total, Certificate, sheet_of}
use Rattle.paths.specs.State.{cell, Own}
use Rattle.engine.specs.State.{Solved, Certified}

module _ {cells : List ℕ} {m n : ℕ} {pairing owner prices discounts : List ℕ} (S : Solved cells m n pairing owner prices discounts) where
  abbrev sheet : Sheet
  sheet = sheet_of n m cells

  -- a cell that is not none is a score
  score : (i j : ℕ) → i < n → j < m → Admissible sheet i j → cell cells m i j < score_end
  score i j h g a =
      ⊎_elim (λ s. s) (λ z. absurd (a z))
      (S.good.shape.cells_good (i * m + j) (omega (arith, row_in i n m (length cells) h (omega (arith, S.good.shape.cells_long)))))

  -- a track's report is its own
  mine : (i : ℕ) → i < n → HasReport (at pairing) i → (at pairing i < m) × (at owner (at pairing i) ≡ i)
  mine i h p = ⊎_elim (λ z. absurd (p z)) (λ z. (z.0, z.1.1)) (S.good.matched.paired i h)

  own : (i : ℕ) → i < n → HasReport (at pairing) i → Own cells m n pairing prices discounts (at pairing i) i
  own i h p =
      let o = mine i h p in
      ⊎_elim (λ a. absurd (omega (arith, a.0, o.1, S.good.shape.tracks_few))) (λ x. rw o.1 at x)
      (S.good.matched.owned (at pairing i) o.0 (λ e. p e))

  valid : ValidPairing sheet (at pairing)
  valid =
      record {
        there = λ i h p. (mine i h p).0;
        admissible = λ i h p z. omega (arith, (own i h p).admissible);
        once = λ i k h g p e. sym (mine i h p).1 ∙ ap (at owner) e ∙ (mine k g (λ z. p (e ∙ z))).1;
      }

  -- the discount of track i's report
  part : ℕ → ℕ
  part i = cond (eqb (at pairing i) none) 0 (at discounts (at pairing i))

  -- the discount of report j, where its track is k
  only : ℕ → ℕ → ℕ
  only k j = cond (eqb (at owner j) k) (at discounts j) 0

  -- the same, where its track is below k
  upto : ℕ → ℕ → ℕ
  upto k j = cond (ltb (at owner j) k) (at discounts j) 0

  price_is : (i : ℕ) → i < n → at prices i ≡ score_or left_out sheet (at pairing) i + part i
  unfolding part
  price_is i h =
      ⊎_elim
      (λ z. rw (eq-eqb (at pairing i) none z) (⊎_elim (λ p. absurd (omega (arith, S.good.shape.reports_few))) (λ e. omega arith) (S.done i h)))
      (λ p. rw (ne_eqb (at pairing i) none p) (own i h p).tight) (same_or (at pairing i) none)

  more : (k j : ℕ) → upto (suc k) j ≡ upto k j + only k j
  unfolding upto only
  more k j =
      ⊎_elim
      (λ q. rw (eq-eqb (at owner j) k q, lt-ltb (at owner j) (suc k) (omega arith), le-ltb (at owner j) k (omega arith)) (omega arith))
      (λ d.
      ⊎_elim
      (λ l.
      let e : suc k ≤ at owner j = ⊎_elim (λ x. absurd (d (omega arith))) (λ x. omega arith) (le_or_lt (at owner j) k) in
      rw (ne_eqb (at owner j) k d, le-ltb (at owner j) (suc k) e, le-ltb (at owner j) k l) (omega arith))
      (λ l. rw (ne_eqb (at owner j) k d, lt-ltb (at owner j) (suc k) (omega arith), lt-ltb (at owner j) k l) (omega arith))
      (le_or_lt k (at owner j)))
      (same_or (at owner j) k)

  -- a report whose track is k is k's
  back : (k j : ℕ) → k < n → j < m → at owner j ≡ k → at pairing k ≡ j
  back k j h g q =
      ⊎_elim (λ a. absurd (omega (arith, a.0, S.good.shape.tracks_few))) (λ o. sym (ap (at pairing) q) ∙ o.back)
      (S.good.matched.owned j g (λ e. omega (arith, S.good.shape.reports_few)))

  only_sum : (k : ℕ) → k < n → sum m (only k) ≡ part k
  unfolding part only
  only_sum k h =
      ⊎_elim
      (λ z.
      sum_zero m (only k) (λ j g. rw (ne_eqb (at owner j) k (λ q. omega (arith, back k j h g q, S.good.shape.reports_few))) refl)
      ∙ sym (rw (eq-eqb (at pairing k) none z) refl))
      (λ p.
      sum_one m (at pairing k) (only k) (mine k h p).0 (λ j g d. rw (ne_eqb (at owner j) k (λ q. d (sym (back k j h g q)))) refl)
      ∙ rw (eq-eqb (at owner (at pairing k)) k (mine k h p).1, ne_eqb (at pairing k) none p) refl)
      (same_or (at pairing k) none)

  walk : (k : ℕ) → k ≤ n → sum k part ≡ sum m (upto k)
  unfolding sum upto
  walk zero h = sym (sum_zero m (upto zero) (λ j g. rw (le-ltb (at owner j) 0 (omega arith)) refl))
  walk (suc k) h =
      omega (arith, walk k (omega arith), only_sum k (omega arith), sum_add m (upto k) (only k), sum_same m (upto (suc k)) (λ j. upto k j + only k j) (λ j g. more k j))

  -- a report that no track has is without discount
  all : (j : ℕ) → j < m → upto n j ≡ at discounts j
  unfolding upto
  all j g =
      ⊎_elim (λ a. rw (le-ltb (at owner j) n (omega (arith, a.0, S.good.shape.tracks_few))) (sym a.1))
      (λ o. rw (lt-ltb (at owner j) n o.there) refl) (S.good.matched.owned j g (λ e. omega (arith, S.good.shape.reports_few)))

  totals : sum n (at prices) ≡ total sheet (at pairing) + sum m (at discounts)
  unfolding total
  totals =
      sum_same n (at prices) (λ i. score_or left_out sheet (at pairing) i + part i) price_is
      ∙ sum_add n (score_or left_out sheet (at pairing)) part
      ∙ ap (λ (x : ℕ). sum n (score_or left_out sheet (at pairing)) + x) (walk n (omega arith) ∙ sum_same m (upto n) (at discounts) all)

  pub shown : Certificate sheet (at pairing) (at prices) (at discounts)
  shown =
      record {
        range = record { tracks_few = S.good.shape.tracks_few; scores = score };
        valid = valid;
        fair = record {
          price = S.good.numbers.price_in;
          discount = S.good.numbers.discount_in;
          under = λ i j h g a. S.good.numbers.fair i j h g (omega (arith, score i j h g a));
        };
        totals = totals;
      }

-- the same of what the caller's lists are at the end
pub certified : {cells : List ℕ} {m n : ℕ} {pairing owner prices discounts pairing' prices' discounts' : List ℕ} → Solved cells m n pairing owner prices discounts
    → pairing' ≡ pairing → prices' ≡ prices → discounts' ≡ discounts → Certified cells m n pairing' prices' discounts'
certified S p u v = rw (p, u, v) (record { pairing_long = S.good.shape.pairing_long; prices_long = S.good.shape.prices_long; discounts_long = S.good.shape.discounts_long; shown = shown S })
