-- Azimuths, which go round at 65,536 (01, 'Numbers carried').
use Rattle.std.specs.Prelude.{ℕ, ◌+◌, ◌-◌, ◌%◌, cond, ℤ, pos, ◌+ℤ◌, ◌-ℤ◌, nat_lt}
use Rattle.numbers.specs.Scales.{turn, half_turn}
use Rattle.numbers.specs.Whole.{remainder}

-- sixteen bits, read as the value of -32,768..32,767 that goes round to them
unfoldable pub signed16 : ℕ → ℤ
signed16 n = cond (nat_lt n half_turn) (pos n) (pos n -ℤ pos turn)

-- the signed difference a - b: the one value of -32,768..32,767 that fits
unfoldable pub azimuth_difference : ℕ → ℕ → ℤ
azimuth_difference a b = signed16 ((a + turn - b) % turn)

-- azimuth a moved by z units
unfoldable pub azimuth_moved : ℕ → ℤ → ℕ
azimuth_moved a z = remainder (pos a +ℤ z) turn
