-- The position number S (01, 'A pair'), by its exact rule.
use Rattle.std.specs.Prelude.{ℕ, zero, suc, ◌+◌, ◌-◌, ◌*◌, Bool, cond, leb}

abbrev pub square : ℕ → ℕ
square x = x * x

abbrev pub position_most : ℕ
position_most = 511

-- S counts quarter sigmas to the nearest, so that its rule compares squares of eighths
abbrev pub eighths_squared : ℕ
eighths_squared = 64

-- (2s-1)^2 x (range sigma x azimuth sigma)^2 at most 64 x ((dr x azimuth sigma)^2 + (da x range sigma)^2)
unfoldable pub reaches : (dr da range_sigma azimuth_sigma s : ℕ) → Bool
reaches dr da range_sigma azimuth_sigma s =
    leb (square (2 * s - 1) * square (range_sigma * azimuth_sigma)) (eighths_squared * (square (dr * azimuth_sigma) + square (da * range_sigma)))

-- the largest s in 1..n that p holds of; 0 if none
unfoldable pub largest : (ℕ → Bool) → ℕ → ℕ
largest p zero = 0
largest p (suc n) = cond (p (suc n)) (suc n) (largest p n)

-- S is the largest s in 1..511 that reaches; 0 if none
unfoldable pub position_of : (dr da range_sigma azimuth_sigma : ℕ) → ℕ
position_of dr da range_sigma azimuth_sigma = largest (reaches dr da range_sigma azimuth_sigma) position_most
