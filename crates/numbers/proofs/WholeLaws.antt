-- What callers count on of rounding, holding, remainders and circular distance.
use Rattle.std.proofs.Common.{◌≡◌, ℕ, zero, suc, ◌+◌, ◌-◌, ◌*◌, ◌/◌, ◌%◌, ◌<◌, ◌≤◌, min, max, ◌⊎◌, ℤ, pos, negsuc, ◌-ℤ◌, ◌*ℤ◌, neg_ℤ, nat_abs, sym, refl, inl, inr, ⊎_elim, le_of_lt, mod-lt, mod-eq_of_lt, mul_assoc, mul-suc, arith}
use native.Mathlib.Nat.{mod-le, div-add-mod, mod-eq-sub-mod, add-mul-mod_self_right}
use native.Mathlib.Decide.{dec_lt}
use lib.IntN.{pos-*ℤ-negsuc}
use Rattle.laws.proofs.Sizes.{neg_size, difference_size, neg_difference_size, neg_minus, times_neg, minus_more}
use Rattle.numbers.specs.Whole.{rounded, held_within, held_from_zero, remainder, circular_distance}

-- ---- rounding

-- q times d is the multiple of d nearest to n, and above n where two are as near
record Nearest (n d q : ℕ) : Type 0 where
  near : 2 * (max n (d * q) - min n (d * q)) ≤ d
  half : 2 * (max n (d * q) - min n (d * q)) ≡ d → n < d * q

nearest : (n d : ℕ) → 0 < d → Nearest n d ((2 * n + d) / (2 * d))
nearest n d h =
    let q : ℕ = (2 * n + d) / (2 * d) in
    let m : 2 * d * q ≡ 2 * (d * q) = mul_assoc 2 d q in
    let e : 2 * d * q + (2 * n + d) % (2 * d) ≡ 2 * n + d = div-add-mod (2 * n + d) (2 * d) in
    let l : (2 * n + d) % (2 * d) < 2 * d = mod-lt (2 * n + d) (omega arith) in
    record { near = omega arith; half = λ k. omega arith }

away : (z : ℤ) (d : ℕ) → ℕ
away z d = nat_abs (z -ℤ pos d *ℤ rounded z d)

away_is : (z : ℤ) (d : ℕ) → away z d ≡ max (nat_abs z) (d * nat_abs (rounded z d)) - min (nat_abs z) (d * nat_abs (rounded z d))
unfolding away rounded
away_is (pos n) d = difference_size n (d * ((2 * n + d) / (2 * d)))
away_is (negsuc n) d =
    let q : ℕ = (2 * suc n + d) / (2 * d) in
    rw (times_neg d q, neg_difference_size (pos (suc n)) (pos (d * q)), neg_size (pos q)) (difference_size (suc n) (d * q))

rounded_size : (z : ℤ) (d : ℕ) → nat_abs (rounded z d) ≡ (2 * nat_abs z + d) / (2 * d)
unfolding rounded
rounded_size (pos n) d = refl
rounded_size (negsuc n) d = neg_size (pos ((2 * suc n + d) / (2 * d)))

-- no whole number lies nearer to z / d than the rounded one: 2 |z - d r| ≤ d
pub rounded_nearest : (z : ℤ) (d : ℕ) → 0 < d → 2 * nat_abs (z -ℤ pos d *ℤ rounded z d) ≤ d
unfolding away
rounded_nearest z d h = rw (away_is z d, rounded_size z d) (nearest (nat_abs z) d h).near

-- and at a half it lies away from zero
pub rounded_half_away : (z : ℤ) (d : ℕ) → 0 < d → 2 * nat_abs (z -ℤ pos d *ℤ rounded z d) ≡ d → nat_abs z < d * nat_abs (rounded z d)
unfolding away
rounded_half_away z d h e = rw (rounded_size z d) ((nearest (nat_abs z) d h).half (rw (away_is z d, rounded_size z d) at e))

-- ---- holding

pub within_lies : (n : ℕ) (z : ℤ) → nat_abs (held_within n z) ≤ n
unfolding held_within
within_lies n (pos k) = omega arith
within_lies n (negsuc k) = rw (neg_size (pos (min (suc k) n))) (omega arith)

pub within_same : (n : ℕ) (z : ℤ) → nat_abs z ≤ n → held_within n z ≡ z
unfolding held_within
within_same n (pos k) h = let e : min k n ≡ k = omega arith in rw e
within_same n (negsuc k) h = let e : min (suc k) n ≡ suc k = omega arith in rw e

pub from_zero_lies : (n : ℕ) (z : ℤ) → held_from_zero n z ≤ n
unfolding held_from_zero
from_zero_lies n (pos k) = omega arith
from_zero_lies n (negsuc k) = omega arith

pub from_zero_same : (n k : ℕ) → k ≤ n → held_from_zero n (pos k) ≡ k
unfolding held_from_zero
from_zero_same n k h = omega arith

-- what lies outside is held to the nearer end
pub within_over : (n k : ℕ) → n ≤ k → held_within n (pos k) ≡ pos n
unfolding held_within
within_over n k h = let e : min k n ≡ n = omega arith in rw e

pub within_under : (n k : ℕ) → n ≤ k → held_within n (neg_ℤ (pos k)) ≡ neg_ℤ (pos n)
unfolding held_within
within_under n zero h = let e : n ≡ 0 = omega arith in rw e
within_under n (suc k) h = let e : min (suc k) n ≡ n = omega arith in rw e

pub from_zero_over : (n k : ℕ) → n ≤ k → held_from_zero n (pos k) ≡ n
unfolding held_from_zero
from_zero_over n k h = omega arith

pub from_zero_under : (n k : ℕ) → held_from_zero n (negsuc k) ≡ 0
unfolding held_from_zero
from_zero_under n k = refl

-- ---- the remainder: 0 ≤ r < m, and m divides z - r

pub remainder_lies : (z : ℤ) (m : ℕ) → 0 < m → remainder z m < m
unfolding remainder
remainder_lies (pos n) m h = mod-lt n h
remainder_lies (negsuc n) m h = omega arith

pub remainder_divides : (z : ℤ) (m : ℕ) → 0 < m → (q : ℤ) × (z -ℤ pos (remainder z m) ≡ pos m *ℤ q)
unfolding remainder
remainder_divides (pos n) m h =
    let e : n - n % m ≡ m * (n / m) = omega (arith, div-add-mod n m) in
    (pos (n / m), rw (minus_more n (n % m) (mod-le n m), e))
remainder_divides (negsuc n) m h =
    let l : n % m < m = mod-lt n h in
    let e : suc n + (m - suc (n % m)) ≡ m * suc (n / m) = rw (mul-suc m (n / m)) (omega (arith, div-add-mod n m)) in
    (negsuc (n / m), rw (neg_minus (suc n) (m - suc (n % m)), e) (sym (pos-*ℤ-negsuc m (n / m))))

-- ---- the short way round: it leads from one to the other, no shorter way does, and it is the same from either end

-- going d on from x, round a circle of n, comes to y
abbrev pub Leads : (n x y d : ℕ) → Type 0
Leads n x y d = (x + d) % n ≡ y

around : (n x y : ℕ) → x < n → y < n → x ≤ y → (x + (y - x)) % n ≡ y
around n x y hx hy h = let e : x + (y - x) ≡ y = omega arith in rw (e, mod-eq_of_lt hy)

across : (n x y : ℕ) → y < n → x ≤ y → x < n → (y + (n - (y - x))) % n ≡ x
across n x y hy h hx = let e : y + (n - (y - x)) ≡ x + 1 * n = omega arith in rw (e, add-mul-mod_self_right x 1 n, mod-eq_of_lt hx)

circular_leads_up : (n x y : ℕ) → x < n → y < n → x ≤ y → Leads n x y (circular_distance n x y) ⊎ Leads n y x (circular_distance n x y)
unfolding circular_distance
circular_leads_up n x y hx hy h =
    let a : max x y - min x y ≡ y - x = omega arith in
    rw a (go (y - x) refl (dec_lt (y - x) (n - (y - x))))
  where
    go : (d : ℕ) → d ≡ y - x → Dec (d < n - d) → Leads n x y (min d (n - d)) ⊎ Leads n y x (min d (n - d))
    go d q (yes l) = let e : min d (n - d) ≡ d = omega arith in inl (rw (e, q) (around n x y hx hy h))
    go d q (no l) = let e : min d (n - d) ≡ n - d = omega arith in inr (rw (e, q) (across n x y hy h hx))

pub circular_half : (n x y : ℕ) → 2 * circular_distance n x y ≤ n
unfolding circular_distance
circular_half n x y = omega arith

pub circular_turned : (n x y : ℕ) → circular_distance n x y ≡ circular_distance n y x
unfolding circular_distance
circular_turned n x y =
    let e : max x y - min x y ≡ max y x - min y x = omega arith in
    rw e

pub circular_leads : (n x y : ℕ) → x < n → y < n → Leads n x y (circular_distance n x y) ⊎ Leads n y x (circular_distance n x y)
circular_leads n x y hx hy = go (dec_lt y x)
  where
    go : Dec (y < x) → Leads n x y (circular_distance n x y) ⊎ Leads n y x (circular_distance n x y)
    go (yes l) = rw (circular_turned n x y) (⊎_elim inr inl (circular_leads_up n y x hy hx (le_of_lt l)))
    go (no l) = circular_leads_up n x y hx hy (omega arith)

-- any d below n that leads from x to y is no shorter
pub circular_shortest : (n x y d : ℕ) → x < n → y < n → d < n → Leads n x y d → circular_distance n x y ≤ d
unfolding circular_distance
circular_shortest n x y d hx hy hd e = go (dec_lt (x + d) n)
  where
    go : Dec (x + d < n) → min (max x y - min x y) (n - (max x y - min x y)) ≤ d
    go (yes l) = let z : x + d ≡ y = rw (mod-eq_of_lt l) at e in omega arith
    go (no l) =
        let f : (x + d - n) % n ≡ y = rw (mod-eq-sub-mod {n = x + d} {m = n} (omega arith)) at e in
        let z : x + d - n ≡ y = rw (mod-eq_of_lt {n = x + d - n} {m = n} (omega arith)) at f in
        omega arith
