-- A nearest report among those from front on is a nearest one, where those before are closed.
use Prim.Native.Nat.{ℕ, ◌+◌, ◌-◌, ◌≤◌, ◌<◌}
use mathlib.Core.Path.{◌≡◌, ap, ◌∙◌}
use mathlib.Core.List.{List}
use mathlib.Core.Logic.{⊎_elim}
use native.Mathlib.Omega.{arith}
use lib.ListN.{length}
use Rattle.laws.proofs.Stores.{le_or_lt}
use Rattle.laws.proofs.Parts.{part, part_length, part_at}
use Rattle.laws.specs.Lists.{at}
use Rattle.passes.specs.Cells.{FromLabels, Nearest}

-- what stands at k, in the part from front on
pub on_at : (xs : List ℕ) (front k : ℕ) → front ≤ k → k < length xs → at (part xs front (length xs)) (k - front) ≡ at xs k
on_at xs front k l h = part_at xs front (length xs) (k - front) (omega arith) ∙ ap (at xs) (omega arith)

module _ (front : ℕ) (labels closings : List ℕ) (cap : ℕ) (F : FromLabels front labels closings cap) where
  abbrev labels_on : List ℕ
  labels_on = part labels front (length labels)

  abbrev closings_on : List ℕ
  closings_on = part closings front (length closings)

  labels_on_long : length labels_on ≡ length labels - front
  labels_on_long = part_length labels front (length labels) (omega arith)

  -- what stands at k in the parts
  both : (k : ℕ) → k < length labels - front → at labels_on k + at closings_on k ≡ at labels (front + k) + at closings (front + k)
  both k h =
      omega (arith, part_at labels front (length labels) k (omega arith), part_at closings front (length closings) k (omega (arith, F.labelled.same)))

  module _ (j : ℕ) (N : Nearest labels_on closings_on cap j) where
    -- a report from front on, as one of the part
    later : (k : ℕ) → front ≤ k → k < length labels → at labels_on (k - front) + at closings_on (k - front) ≡ at labels k + at closings k
    later k l h = both (k - front) (omega arith) ∙ ap (λ (x : ℕ). at labels x + at closings x) (omega arith)

    found : front + j < length labels → at labels (front + j) + at closings (front + j) < cap
    found h = omega (arith, both j (omega arith), N.here (omega (arith, labels_on_long)))

    pub from_nearest : Nearest labels closings cap (front + j)
    from_nearest =
        record {
          upto = omega (arith, N.upto, labels_on_long, F.upto);
          here = found;
          least = λ k h g.
              ⊎_elim (λ l. omega (arith, later k l h, both j (omega arith), N.least (k - front) (omega (arith, labels_on_long)) (omega (arith, labels_on_long))))
              (λ l. omega (arith, found g, F.closed k l)) (le_or_lt front k);
          nobody = λ k h g.
              ⊎_elim (λ l. omega (arith, later k l h, N.nobody (k - front) (omega (arith, labels_on_long)) (omega (arith, labels_on_long))))
              (λ l. F.closed k l) (le_or_lt front k);
        }
