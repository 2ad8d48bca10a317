-- Tests of every number below n, and of every item of a list.
use Rattle.std.specs.Prelude.{ℕ, zero, suc, Bool, true, ◌&&◌, cond, List, [], ◌∷◌}

-- f holds of each number below n
unfoldable pub each : ℕ → (ℕ → Bool) → Bool
each zero f = true
each (suc n) f = each n f && f n

-- every test of a list holds
unfoldable pub holds : List Bool → Bool
holds [] = true
holds (b ∷ bs) = b && holds bs

-- one line of a chain of refusals: the number k where the test fails, else what the rest of the chain gives
abbrev pub refuse : ℕ → Bool → ℕ → ℕ
refuse k ok rest = cond ok rest k
