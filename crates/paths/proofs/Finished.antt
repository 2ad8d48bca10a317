-- The report of a track that is left out, as a vacant report.
use Prim.Native.Nat.{ℕ, ◌≤◌, ◌<◌}
use mathlib.Core.Path.{◌≡◌, ap, sym, ◌∙◌}
use mathlib.Core.List.{List}
use mathlib.Core.Logic.{inl, inr, ⊎_elim}
use native.Mathlib.Omega.{arith}
use lib.ListN.{set}
use Rattle.laws.specs.Lists.{at}
use Rattle.matching.specs.Pairing.{none, left_out}
use Rattle.passes.specs.Cells.{far}
use Rattle.paths.specs.State.{Flips, Flipped, Finishable, Finished}
use Rattle.paths.specs.declared.End.TheVariants.{LeftOut}
use Rattle.laws.proofs.Stores.{same_or}
use Rattle.paths.proofs.Swap.{gone, stays, vacated, shape₁, way_back_set}

module _ {cells : List ℕ} {m n : ℕ} {prices discounts : List ℕ} {track : ℕ} {via closings pairing owner : List ℕ} {leaver : ℕ}
    (T : Finishable cells m n prices discounts track via closings (LeftOut leaver) pairing owner) (other : leaver ≡ track → ⊥) where
  pub left_out_lem : (leaver < n) × ((at pairing leaver < m) × ((far ≤ at closings (at pairing leaver)) × (at prices leaver ≡ left_out)))
  left_out_lem = ⊎_elim (λ x. absurd (other x.0)) (λ x. x) T.ends

  abbrev pairing₁ : List ℕ
  pairing₁ = set pairing leaver none

  paired₁_leaver : at pairing₁ leaver ≡ none
  paired₁_leaver = gone cells m n prices discounts pairing owner T.shape T.matched leaver left_out_lem.0 left_out_lem.1.0

  paired₁_other : (k : ℕ) → (k ≡ leaver → ⊥) → at pairing₁ k ≡ at pairing k
  paired₁_other = stays cells m n prices discounts pairing owner T.shape T.matched leaver left_out_lem.0 left_out_lem.1.0

  pub flips_leaver : Flips cells m n prices discounts track via closings pairing₁ owner pairing₁ owner (at pairing leaver)
  flips_leaver = record {
    shape = shape₁ cells m n prices discounts pairing owner T.shape T.matched leaver left_out_lem.0 left_out_lem.1.0;
    moved = record { came_in = λ i h l. inl l; free = λ j h z. z };
    via_long = T.via_long;
    closings_long = T.closings_long;
    track_in = T.track_in;
    kept = λ i h l. l;
    state = inl (record {
      vacant_in = left_out_lem.1.0;
      vacant_closed = left_out_lem.1.1.0;
      matched = vacated cells m n prices discounts pairing owner T.shape T.matched leaver left_out_lem.0 left_out_lem.1.0;
      way_back = way_back_set cells m n prices discounts pairing track via closings leaver none (at closings (at pairing leaver)) (T.way_back (at closings (at pairing leaver))) (omega arith);
      unpaired = paired₁_other track (λ q. other (sym q)) ∙ T.unpaired;
    });
  }

  pub finished_leaver : {pairing' owner' : List ℕ} → Flipped cells m n prices discounts track pairing₁ owner pairing' owner' → Finished cells m n prices discounts track pairing owner pairing' owner'
  finished_leaver G = record {
    shape = G.shape;
    moved = record {
      came_in = λ i h l. ⊎_elim (λ a. ⊎_elim (λ q. absurd (omega (arith, ap (at pairing₁) q, paired₁_leaver, T.shape.reports_few))) (λ d. inl (omega (arith, paired₁_other i d))) (same_or i leaver)) inr (G.moved.came_in i h l);
      free = G.moved.free;
    };
    matched = G.whole.matched;
    done = λ i h l. ⊎_elim (λ q. inr (ap (at prices) q ∙ left_out_lem.1.1.1)) (λ d. inl (G.kept i h (omega (arith, paired₁_other i d)))) (same_or i leaver);
    track_done = inl G.whole.placed;
  }
