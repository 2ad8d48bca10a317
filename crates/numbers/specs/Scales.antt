-- The scales of ranges, azimuths, sectors and waits (01, 'Numbers carried' and 'After pairing'), each number named once.
use Rattle.std.specs.Prelude.{ℕ}

-- the largest range, 65 nautical miles in 1/1024
abbrev pub range_most : ℕ
range_most = 66560

-- azimuth units in a turn, and in half of one
abbrev pub turn : ℕ
turn = 65536

abbrev pub half_turn : ℕ
half_turn = 32768

-- the antenna's sectors, and azimuth units in each
abbrev pub sectors : ℕ
sectors = 32

abbrev pub sector_width : ℕ
sector_width = 2048

-- the largest speeds in units a scan, either way: 600 knots over 4.8 seconds, and an eighth of a turn
abbrev pub range_speed_most : ℕ
range_speed_most = 820

abbrev pub azimuth_speed_most : ℕ
azimuth_speed_most = 8192

-- a track served or started is due again this many calls later at the soonest, and less than a whole turn after that
abbrev pub soonest : ℕ
soonest = 16
