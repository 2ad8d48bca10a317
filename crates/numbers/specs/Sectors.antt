-- Sectors, and how many calls ahead a track is due (01, 'Numbers carried' and 'After pairing').
use Rattle.std.specs.Prelude.{ℕ, ◌+◌, ◌-◌, ◌/◌, ◌%◌}
use Rattle.numbers.specs.Scales.{sectors, sector_width, soonest}

-- azimuth / 2,048 whole
unfoldable pub sector_of : ℕ → ℕ
sector_of azimuth = azimuth / sector_width

-- the sector that a call serves after sector s: 31 to 0
unfoldable pub next_sector : ℕ → ℕ
next_sector s = (s + 1) % sectors

-- j, the one number in 16..47 with (s + j) mod 32 the predicted sector p
unfoldable pub calls_ahead : ℕ → ℕ → ℕ
calls_ahead s p = soonest + (p + sectors + soonest - s) % sectors
