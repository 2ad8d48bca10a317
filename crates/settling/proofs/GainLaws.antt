-- Laws of the gains: a rule of a table is one test over its entries.
use Prim.Native.Nat.{ℕ, ◌+◌, ◌≤◌}
use mathlib.Core.Path.{◌≡◌, refl, ◌∙◌}
use mathlib.Core.Bool.{Bool, true, false, cond}
use mathlib.Core.List.{List, []}
use native.Mathlib.Omega.{arith}
use borrow.Author.Tests.{eqb-true, leb-true, ne_eqb}
use lib.Dec.{leb, eqb}
use lib.ListN.{get_or}
use Rattle.laws.specs.Tests.{each}
use Rattle.laws.proofs.Tests.{each_at}
use Rattle.records.specs.Fields.{confidence_most, quality_most, Sound, updates_at_start}
use Rattle.records.specs.declared.Track.{Track}
use Rattle.records.specs.declared.Report.{Report}
use Rattle.settling.specs.Gains.{tenths, degraded_a, degraded_b, row_a, row_b, listed_at, gain, gain_a, gain_b}

abbrev pub qualities : ℕ
qualities = quality_most + 1

abbrev pub confidences : ℕ
confidences = confidence_most + 1

-- what a test over all qualities and confidences says of one
everywhere : (f : ℕ → ℕ → Bool) (q k : ℕ) → each qualities (λ q. each confidences (f q)) ≡ true → q ≤ quality_most → k ≤ confidence_most → f q k ≡ true
everywhere f q k e hq hk = each_at (f q) confidences k (each_at (λ q. each confidences (f q)) qualities q e (omega arith)) (omega arith)

-- what a table lists is what the rows say, where one test over the whole table has found no difference
unfoldable pub agrees : List (List ℕ) → (ℕ → List ℕ) → Bool
agrees table row = each qualities (λ q. each confidences (λ k. eqb (get_or (get_or table q []) k 0) (get_or (row q) k 0)))

pub as_listed : (table : List (List ℕ)) (row : ℕ → List ℕ) (p : Report) (x : ℕ) → x ≡ listed_at table p.quality p.confidence → agrees table row ≡ true → Sound p → x ≡ get_or (row p.quality) p.confidence 0
unfolding agrees listed_at
as_listed table row p x h e w =
    h ∙ eqb-true _ _ (everywhere (λ q k. eqb (get_or (get_or table q []) k 0) (get_or (row q) k 0)) p.quality p.confidence e w.quality_in w.confidence_in)

-- ---- 01's three cases: updates 1 before the pairing; else azimuth-degrade 1; else the table

pub first_gains : (t : Track) (p : Report) → t.updates ≡ updates_at_start → (gain_a t p ≡ tenths) × (gain_b t p ≡ tenths)
unfolding gain_a gain_b gain
first_gains t p e = rw e (refl, refl)

pub degraded_gains : (t : Track) (p : Report) → (t.updates ≡ updates_at_start → ⊥) → p.azimuth_degrade ≡ 1 → (gain_a t p ≡ degraded_a) × (gain_b t p ≡ degraded_b)
unfolding gain_a gain_b gain
degraded_gains t p n e = rw (ne_eqb t.updates updates_at_start n, e) (refl, refl)

pub table_gains : (t : Track) (p : Report) → (t.updates ≡ updates_at_start → ⊥) → (p.azimuth_degrade ≡ 1 → ⊥) → (gain_a t p ≡ get_or (row_a p.quality) p.confidence 0) × (gain_b t p ≡ get_or (row_b p.quality) p.confidence 0)
unfolding gain_a gain_b gain
table_gains t p n m = rw (ne_eqb t.updates updates_at_start n, ne_eqb p.azimuth_degrade 1 m) (refl, refl)

-- ---- no gain exceeds ten tenths

gain_most : (t : Track) (p : Report) (degraded entry : ℕ) → degraded ≤ tenths → entry ≤ tenths → gain t p degraded entry ≤ tenths
unfolding gain
gain_most t p degraded entry hd he = go (eqb t.updates updates_at_start) (eqb p.azimuth_degrade 1)
  where
    go : (b c : Bool) → cond b tenths (cond c degraded entry) ≤ tenths
    go true c = omega arith
    go false true = hd
    go false false = he

entry_most : (row : ℕ → List ℕ) (p : Report) → each qualities (λ q. each confidences (λ k. leb (get_or (row q) k 0) tenths)) ≡ true → Sound p → get_or (row p.quality) p.confidence 0 ≤ tenths
entry_most row p e w = leb-true _ _ (everywhere (λ q k. leb (get_or (row q) k 0) tenths) p.quality p.confidence e w.quality_in w.confidence_in)

pub gain_a_most : (t : Track) (p : Report) → Sound p → gain_a t p ≤ tenths
unfolding gain_a row_a each
gain_a_most t p w = gain_most t p _ _ (omega arith) (entry_most row_a p refl w)

pub gain_b_most : (t : Track) (p : Report) → Sound p → gain_b t p ≤ tenths
unfolding gain_b row_b each
gain_b_most t p w = gain_most t p _ _ (omega arith) (entry_most row_b p refl w)
