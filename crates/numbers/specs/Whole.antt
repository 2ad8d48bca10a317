-- Whole numbers with a sign (01, 'A pair' and 'After pairing').
use Rattle.std.specs.Prelude.{ℕ, suc, ◌+◌, ◌-◌, ◌*◌, ◌/◌, ◌%◌, min, max, ℤ, pos, negsuc, neg_ℤ}

-- z / d, rounded to nearest, halves away from zero
unfoldable pub rounded : ℤ → ℕ → ℤ
rounded (pos n) d = pos ((2 * n + d) / (2 * d))
rounded (negsuc n) d = neg_ℤ (pos ((2 * suc n + d) / (2 * d)))

-- z, held to -n..n
unfoldable pub held_within : ℕ → ℤ → ℤ
held_within n (pos k) = pos (min k n)
held_within n (negsuc k) = neg_ℤ (pos (min (suc k) n))

-- z, held to 0..n
unfoldable pub held_from_zero : ℕ → ℤ → ℕ
held_from_zero n (pos k) = min k n
held_from_zero n (negsuc k) = 0

-- z mod m, taken non-negative
unfoldable pub remainder : ℤ → ℕ → ℕ
remainder (pos n) m = n % m
remainder (negsuc n) m = m - suc (n % m)

-- how far x and y are apart, the short way round a circle of n
unfoldable pub circular_distance : ℕ → ℕ → ℕ → ℕ
circular_distance n x y = min (max x y - min x y) (n - (max x y - min x y))
