-- A track served or started in sector s waits until the call that serves its predicted sector.
use Prim.Native.Nat.{ℕ, ◌+◌, ◌%◌, ◌≤◌, ◌<◌}
use mathlib.Core.Path.{◌≡◌}
use native.Mathlib.Omega.{arith}
use Rattle.numbers.specs.Scales.{turn, sectors, soonest}
use Rattle.numbers.specs.Sectors.{sector_of, next_sector, calls_ahead}
use Rattle.numbers.proofs.SectorLaws.{sector_lies, ahead_soonest, ahead_latest, ahead_meets}
use Rattle.records.specs.Fields.{wait_most}
use Rattle.settling.specs.Settle.{wait_after}

-- the wait stored and the call that serves the track come to j
pub wait_is : (s azimuth : ℕ) → wait_after s azimuth + 1 ≡ calls_ahead s (sector_of azimuth)
unfolding wait_after
wait_is s azimuth = omega (arith, ahead_soonest s (sector_of azimuth))

-- it is one of 15..46
pub wait_soonest : (s azimuth : ℕ) → soonest ≤ wait_after s azimuth + 1
wait_soonest s azimuth = omega (arith, wait_is s azimuth, ahead_soonest s (sector_of azimuth))

pub wait_latest : (s azimuth : ℕ) → wait_after s azimuth ≤ wait_most
wait_latest s azimuth = omega (arith, wait_is s azimuth, ahead_latest s (sector_of azimuth))

-- counted from the next call, it leads to the predicted sector
pub waits : (s azimuth : ℕ) → s < sectors → azimuth < turn → (next_sector s + wait_after s azimuth) % sectors ≡ sector_of azimuth
unfolding next_sector
waits s azimuth hs ha =
    omega (arith, wait_is s azimuth, ahead_meets s (sector_of azimuth) hs (sector_lies azimuth ha))
