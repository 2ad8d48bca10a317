-- What callers count on of sectors and waits.
use Rattle.std.proofs.Common.{◌≡◌, ℕ, ◌+◌, ◌%◌, ◌<◌, ◌≤◌, arith}
use Rattle.numbers.specs.Scales.{turn, sectors, soonest}
use Rattle.numbers.specs.Sectors.{sector_of, next_sector, calls_ahead}

pub sector_lies : (azimuth : ℕ) → azimuth < turn → sector_of azimuth < sectors
unfolding sector_of
sector_lies azimuth h = omega arith

pub next_lies : (s : ℕ) → next_sector s < sectors
unfolding next_sector
next_lies s = omega arith

-- j is one of 16..47
pub ahead_soonest : (s p : ℕ) → soonest ≤ calls_ahead s p
unfolding calls_ahead
ahead_soonest s p = omega arith

pub ahead_latest : (s p : ℕ) → calls_ahead s p < soonest + sectors
unfolding calls_ahead
ahead_latest s p = omega arith

-- the call so many after the one that serves s serves p
pub ahead_meets : (s p : ℕ) → s < sectors → p < sectors → (s + calls_ahead s p) % sectors ≡ p
unfolding calls_ahead
ahead_meets s p hs hp = omega arith

-- and no other of 16..47 does
pub ahead_only : (s p j : ℕ) → s < sectors → p < sectors → soonest ≤ j → j < soonest + sectors → (s + j) % sectors ≡ p → j ≡ calls_ahead s p
unfolding calls_ahead
ahead_only s p j hs hp l h e = omega arith
