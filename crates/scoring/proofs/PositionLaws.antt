-- Laws of the position number.
use Prim.Native.Nat.{ℕ, ◌+◌, ◌-◌, ◌*◌, ◌^◌, ◌≤◌, ◌<◌}
use mathlib.Core.Path.{◌≡◌}
use mathlib.Core.Bool.{true, false}
use mathlib.Core.Logic.{◌↔◌}
use native.Mathlib.Nat.{le_refl, le_trans, mul-le-mul, add-le-add}
use native.Mathlib.Omega.{arith}
use borrow.Author.Tests.{leb-true, leb-false, le-leb, lt-leb}
use Rattle.numbers.specs.Scales.{range_most, half_turn}
use Rattle.scoring.specs.Position.{square, position_most, eighths_squared, reaches, position_of}
use Rattle.scoring.proofs.Largest.{Downward, largest_most, largest_zero, largest_monotone}

square_monotone : {a b : ℕ} → a ≤ b → square a ≤ square b
square_monotone h = mul-le-mul h h

-- the two sides of the rule, of any track and report whose ranges are legal, stay below 2^63
pub sides_fit : (dr da range_sigma azimuth_sigma s : ℕ) → dr ≤ range_most → da ≤ half_turn → range_sigma < 256 → azimuth_sigma < 256 → s ≤ position_most → (square (2 * s - 1) * square (range_sigma * azimuth_sigma) < 2 ^ 63) × (eighths_squared * (square (dr * azimuth_sigma) + square (da * range_sigma)) < 2 ^ 63)
sides_fit dr da r a s hd hz hr ha hs =
    let r' : r ≤ 255 = omega arith in
    let a' : a ≤ 255 = omega arith in
    let odd : 2 * s - 1 ≤ 2 * position_most - 1 = omega arith in
    (omega (arith, mul-le-mul (square_monotone odd) (square_monotone (mul-le-mul r' a'))), omega (arith, square_monotone (mul-le-mul hd a'), square_monotone (mul-le-mul hz r')))

-- what reaches s at one distance reaches it at a larger one
reaches_farther : {dr dr' da da' : ℕ} (range_sigma azimuth_sigma s : ℕ) → dr ≤ dr' → da ≤ da' → reaches dr da range_sigma azimuth_sigma s ≡ true → reaches dr' da' range_sigma azimuth_sigma s ≡ true
unfolding reaches
reaches_farther r a s hd hz e =
    le-leb _ _ (le_trans (leb-true _ _ e) (mul-le-mul (le_refl eighths_squared) (add-le-add (square_monotone (mul-le-mul hd (le_refl a))) (square_monotone (mul-le-mul hz (le_refl r))))))

-- the position number grows with the distance
pub position_monotone : {dr dr' da da' : ℕ} (range_sigma azimuth_sigma : ℕ) → dr ≤ dr' → da ≤ da' → position_of dr da range_sigma azimuth_sigma ≤ position_of dr' da' range_sigma azimuth_sigma
unfolding position_of
position_monotone r a hd hz = largest_monotone _ _ position_most (λ s. reaches_farther r a s hd hz)

module _ (dr da range_sigma azimuth_sigma : ℕ) where
  -- where s reaches, every smaller number does
  pub reaches_downward : (n : ℕ) → Downward (reaches dr da range_sigma azimuth_sigma) n
  unfolding reaches
  reaches_downward n = record {
    below = λ a b h l k e. le-leb _ _ (le_trans (mul-le-mul (square_monotone (odd a b l)) (le_refl _)) (leb-true _ _ e));
  }
    where
      odd : (a b : ℕ) → a ≤ b → 2 * a - 1 ≤ 2 * b - 1
      odd a b l = omega arith

  -- it is at most 511
  pub position_most_lem : position_of dr da range_sigma azimuth_sigma ≤ position_most
  unfolding position_of
  position_most_lem = largest_most (reaches dr da range_sigma azimuth_sigma) position_most

  -- it is 0 exactly when the distance is under half a quarter sigma, so that not even 1 reaches
  pub position_zero : (position_of dr da range_sigma azimuth_sigma ≡ 0) ↔ (eighths_squared * (square (dr * azimuth_sigma) + square (da * range_sigma)) < square (range_sigma * azimuth_sigma))
  unfolding position_of reaches
  position_zero = (λ z. let h : far < 1 * one = leb-false _ _ (nothing.0 z) in omega arith, λ h. nothing.1 (lt-leb (1 * one) far (omega arith)))
    where
      one : ℕ
      one = square (range_sigma * azimuth_sigma)

      far : ℕ
      far = eighths_squared * (square (dr * azimuth_sigma) + square (da * range_sigma))

      nothing : (position_of dr da range_sigma azimuth_sigma ≡ 0) ↔ (reaches dr da range_sigma azimuth_sigma 1 ≡ false)
      nothing = largest_zero _ position_most (reaches_downward position_most) (omega arith)

-- a product with a sigma can be squared
pub sigma_product : (x sigma : ℕ) → x ≤ range_most → sigma < 256 → x * sigma < 2 ^ 32
sigma_product x sigma h k =
    let k' : sigma ≤ 255 = omega arith in
    omega (arith, mul-le-mul h k')
