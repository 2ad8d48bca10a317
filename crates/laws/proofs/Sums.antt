-- Laws of `sum`.
use Prim.Native.Nat.{ℕ, zero, suc, ◌+◌, ◌*◌, ◌≤◌, ◌<◌, zero-le}
use mathlib.Core.Path.{◌≡◌, refl, ap, sym, ◌∙◌}
use mathlib.Core.Bool.{Bool, true, false, cond}
use mathlib.Core.Logic.{⊎_elim}
use native.Mathlib.Omega.{arith}
use native.Mathlib.Nat.{le_refl, lt-suc_self, le_step, le_antisymm, le_of_eq, add-le-add, suc-mul, ne_of_lt, le-add_right, le_trans, mul-le-mul_right, eq-or-lt_of_le, le_of_suc-le-suc, not-suc-le-zero}
use native.Mathlib.Numerals.{add-one}
use lib.Dec.{eqb, ltb}
use borrow.Author.Tests.{eqb-true, eqb-false, ltb-true, ltb-false, lt-ltb, le-ltb, ne_eqb}
use Rattle.laws.specs.Sums.{sum}

-- a loop that sums: it begins, a round, it is done
pub sum_none : (f : ℕ → ℕ) → 0 ≡ sum 0 f
unfolding sum
sum_none f = refl

pub sum_more : (i t x : ℕ) (f : ℕ → ℕ) → t ≡ sum i f → x ≡ f i → t + x ≡ sum (i + 1) f
unfolding sum
sum_more i t x f p q = rw (add-one, p, q)

pub sum_done : (i n t : ℕ) (f : ℕ → ℕ) → i ≤ n → n ≤ i → t ≡ sum i f → t ≡ sum n f
sum_done i n t f p q e = rw (le_antisymm q p) e

pub sum_le : (n : ℕ) (f g : ℕ → ℕ) → ((i : ℕ) → i < n → f i ≤ g i) → sum n f ≤ sum n g
unfolding sum
sum_le zero f g h = le_refl 0
sum_le (suc n) f g h =
    let a : sum n f ≤ sum n g = sum_le n f g (λ i l. h i (le_step l)) in
    let b : f n ≤ g n = h n (lt-suc_self n) in
    omega arith

-- one of them less: the sum is less
pub sum_less : (n k : ℕ) (f g : ℕ → ℕ) → k < n → f k < g k → ((i : ℕ) → i < n → f i ≤ g i) → sum n f < sum n g
unfolding sum
sum_less zero k f g l h a = absurd (not-suc-le-zero l)
sum_less (suc n) k f g l h a =
    let b : f n ≤ g n = a n (lt-suc_self n) in
    ⊎_elim
    (λ e. let c : f n < g n = rw e at h in omega (arith, sum_le n f g (λ i m. a i (le_step m))))
    (λ m. omega (arith, sum_less n k f g m h (λ i j. a i (le_step j))))
    (eq-or-lt_of_le (le_of_suc-le-suc l))

pub sum_add : (n : ℕ) (f g : ℕ → ℕ) → sum n (λ i. f i + g i) ≡ sum n f + sum n g
unfolding sum
sum_add zero f g = refl
sum_add (suc n) f g = omega (arith, sum_add n f g)

-- each at most c: at most n times c. Of a numeral c, omega reads n * c
pub sum_under : (n c : ℕ) (f : ℕ → ℕ) → ((i : ℕ) → i < n → f i ≤ c) → sum n f ≤ n * c
unfolding sum
sum_under zero c f h = zero-le
sum_under (suc n) c f h =
    let a : sum n f ≤ n * c = sum_under n c f (λ i l. h i (le_step l)) in
    let b : f n ≤ c = h n (lt-suc_self n) in
    rw suc-mul (add-le-add a b)

pub sum_same : (n : ℕ) (f g : ℕ → ℕ) → ((i : ℕ) → i < n → f i ≡ g i) → sum n f ≡ sum n g
sum_same n f g h = le_antisymm (sum_le n f g (λ i l. le_of_eq (h i l))) (sum_le n g f (λ i l. le_of_eq (sym (h i l))))

pub sum_zero : (n : ℕ) (f : ℕ → ℕ) → ((i : ℕ) → i < n → f i ≡ 0) → sum n f ≡ 0
unfolding sum
sum_zero zero f h = refl
sum_zero (suc n) f h =
    let a : sum n f ≡ 0 = sum_zero n f (λ i l. h i (le_step l)) in
    let b : f n ≡ 0 = h n (lt-suc_self n) in
    omega arith

-- only the term at k counts
pub sum_one : (n k : ℕ) (f : ℕ → ℕ) → k < n → ((i : ℕ) → i < n → (i ≡ k → ⊥) → f i ≡ 0) → sum n f ≡ f k
unfolding sum
sum_one zero k f l h = absurd (not-suc-le-zero l)
sum_one (suc n) k f l h =
    ⊎_elim (λ e. omega (arith, ap f e, sum_zero n f (λ i g. h i (omega arith) (λ q. omega arith))))
    (λ g. omega (arith, sum_one n k f g (λ i x. h i (omega arith)), h n (omega arith) (λ q. omega arith)))
    (eq-or-lt_of_le (le_of_suc-le-suc l))

-- at most one i has P i ≡ j
pub at_most_one : (n c j : ℕ) (P : ℕ → ℕ) → ((i k : ℕ) → i < n → k < n → P i ≡ j → P k ≡ j → i ≡ k) → sum n (λ i. cond (eqb (P i) j) c 0) ≤ c
unfolding sum
at_most_one zero c j P h = zero-le
at_most_one (suc n) c j P h = go (eqb (P n) j) refl (at_most_one n c j P (λ i k li lk. h i k (le_step li) (le_step lk)))
  where
    go : (b : Bool) → eqb (P n) j ≡ b → sum n (λ i. cond (eqb (P i) j) c 0) ≤ c → sum n (λ i. cond (eqb (P i) j) c 0) + cond b c 0 ≤ c
    go true e a =
        let z : sum n (λ i. cond (eqb (P i) j) c 0) ≡ 0 =
        sum_zero n _ (λ i l. rw (ne_eqb (P i) j (λ q. ne_of_lt l (h i n (le_step l) (lt-suc_self n) q (eqb-true (P n) j e)))) refl) in
        omega arith
    go false e a = omega arith

-- x below suc m is below m, or m
one_more : (m x : ℕ) (v : ℕ → ℕ) → cond (ltb x (suc m)) (v x) 0 ≤ cond (ltb x m) (v x) 0 + cond (eqb x m) (v m) 0
one_more m x v = go (ltb x m) (eqb x m) refl refl
  where
    go : (b d : Bool) → ltb x m ≡ b → eqb x m ≡ d → cond (ltb x (suc m)) (v x) 0 ≤ cond b (v x) 0 + cond d (v m) 0
    go true d e f = rw (lt-ltb x (suc m) (le_step (ltb-true x m e))) (le-add_right (v x) _)
    go false true e f =
        let q : x ≡ m = eqb-true x m f in
        rw (q, lt-ltb m (suc m) (lt-suc_self m)) (omega arith)
    go false false e f =
        let l : m ≤ x = ltb-false x m e in
        let d : x ≡ m → ⊥ = eqb-false x m f in
        rw (le-ltb x (suc m) (omega arith)) zero-le

-- P takes each i below n to at most one j below m, and no j twice: the v of those taken come to at most all v
pub sum_injective : (n m : ℕ) (P v : ℕ → ℕ) → ((i k : ℕ) → i < n → k < n → P i < m → P i ≡ P k → i ≡ k) → sum n (λ i. cond (ltb (P i) m) (v (P i)) 0) ≤ sum m v
unfolding sum
sum_injective n zero P v h = le_of_eq (sum_zero n _ (λ i l. rw (le-ltb (P i) 0 zero-le)))
sum_injective n (suc m) P v h =
    let a : sum n (λ i. cond (ltb (P i) m) (v (P i)) 0) ≤ sum m v = sum_injective n m P v (λ i k li lk l. h i k li lk (le_step l)) in
    let b : sum n (λ i. cond (eqb (P i) m) (v m) 0) ≤ v m =
    at_most_one n (v m) m P (λ i k li lk p q. h i k li lk (rw p (lt-suc_self m)) (p ∙ sym q)) in
    let c : sum n (λ i. cond (ltb (P i) (suc m)) (v (P i)) 0) ≤ sum n (λ i. cond (ltb (P i) m) (v (P i)) 0 + cond (eqb (P i) m) (v m) 0) =
    sum_le n _ _ (λ i l. one_more m (P i) v) in
    omega (arith, sum_add n (λ i. cond (ltb (P i) m) (v (P i)) 0) (λ i. cond (eqb (P i) m) (v m) 0))

-- row i of n rows of m lies within
pub row_in : (i n m l : ℕ) → i < n → n * m ≤ l → i * m + m ≤ l
row_in i n m l h k = le_trans (rw suc-mul at (mul-le-mul_right m h)) k

-- ---- a loop that counts the numbers that a test fails of

pub bit_small : (b : Bool) → cond b 0 1 ≤ 1
bit_small true = zero-le
bit_small false = le_refl 1

-- those that b holds of and the others are all
pub count_both : (n : ℕ) (b : ℕ → Bool) → sum n (λ i. cond (b i) 0 1) + sum n (λ i. cond (b i) 1 0) ≡ n
unfolding sum
count_both zero b = refl
count_both (suc n) b = go (b n) (sum n (λ i. cond (b i) 0 1)) (sum n (λ i. cond (b i) 1 0)) (count_both n b)
  where
    go : (t : Bool) (p q : ℕ) → p + q ≡ n → (p + cond t 0 1) + (q + cond t 1 0) ≡ suc n
    go true p q e = omega arith
    go false p q e = omega arith
