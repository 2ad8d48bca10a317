-- The start: a track's price is set, and a report of that score given to it, a free one or a less exacting track's.
use Prim.Native.Nat.{ℕ, ◌+◌, ◌≤◌, ◌<◌}
use mathlib.Core.Path.{◌≡◌, refl, ap, sym, ◌∙◌}
use mathlib.Core.List.{List}
use mathlib.Core.Logic.{inl, inr, ⊎_elim}
use native.Mathlib.Omega.{arith}
use lib.ListN.{length, set, length-set}
use lib.Seq.{get_or-set_same, get_or-set_other}
use Rattle.laws.specs.Lists.{at}
use Rattle.matching.specs.Pairing.{none, left_out}
use Rattle.passes.specs.Cells.{far}
use Rattle.paths.specs.State.{cell, Shape, Own, Match, Good}
use Rattle.engine.specs.State.{Fresh, Contest, Claimed}
use Rattle.laws.proofs.Stores.{same_or}
use Rattle.paths.proofs.Swap.{reshaped, free_zero, free_vacant, refit, shape', stays, vacated, shape₁}
use Rattle.paths.proofs.Rows.{row, row_length, row_at}

module _ (cells : List ℕ) (m n track : ℕ) (pairing owner prices discounts : List ℕ) (G : Good cells m n pairing owner prices discounts) (track_in : track < n) (unpaired : at pairing track ≡ none)
    (score : ℕ) (score-in : score ≤ left_out) (score-least : (j : ℕ) → j < m → score ≤ cell cells m track j) where
  abbrev prices₁ : List ℕ
  prices₁ = set prices track score

  price₁_track : at prices₁ track ≡ score
  price₁_track = get_or-set_same prices track score 0 (omega (arith, G.shape.prices_long))

  price₁_other : (i : ℕ) → (i ≡ track → ⊥) → at prices₁ i ≡ at prices i
  price₁_other i d = get_or-set_other prices track i score 0 d

  own₁ : (j i : ℕ) → j < m → Own cells m n pairing prices discounts j i → Own cells m n pairing prices₁ discounts j i
  own₁ j i h o = record {
    there = o.there;
    back = o.back;
    admissible = o.admissible;
    tight = price₁_other i (λ q. omega (arith, o.back, ap (at pairing) q, G.shape.reports_few)) ∙ o.tight;
  }

  pub priced : Good cells m n pairing owner prices₁ discounts
  priced = record {
    shape = reshaped G.shape refl refl (simp length-set) refl;
    numbers = record {
      fair = λ i j h g a. ⊎_elim (λ q. rw q (omega (arith, price₁_track, score-least j g))) (λ d. omega (arith, price₁_other i d, G.numbers.fair i j h g a)) (same_or i track);
      price_in = λ i h. ⊎_elim (λ q. rw q (omega (arith, price₁_track))) (λ d. omega (arith, price₁_other i d, G.numbers.price_in i h)) (same_or i track);
      discount_in = G.numbers.discount_in;
    };
    matched = record {
      owned = λ j h d. ⊎_elim inl (λ o. inr (own₁ j (at owner j) h o)) (G.matched.owned j h d);
      paired = G.matched.paired;
    };
  }

  module _ (j : ℕ) (jm : j < m) (free : at owner j ≡ none) (low : score < left_out) (eq : cell cells m track j ≡ score) where
    vacant : Match cells m n pairing owner prices₁ discounts j
    vacant = free_vacant priced.shape priced.matched j free

    fits : cell cells m track j < far
    fits = omega arith

    tight : at prices₁ track ≡ cell cells m track j + at discounts j
    tight = omega (arith, price₁_track, free_zero G j jm free)

    pub given : Good cells m n (set pairing track j) (set owner j track) prices₁ discounts
    given = record {
      shape = shape' cells m n prices₁ discounts pairing owner priced.shape j jm vacant track track_in fits tight;
      numbers = priced.numbers;
      matched = (rw unpaired at (refit cells m n prices₁ discounts pairing owner priced.shape j jm vacant track track_in fits tight));
    }

-- what claim shows, over the part of the sheet that it reads
module _ {cells : List ℕ} {m track : ℕ} {pairing owner prices discounts : List ℕ} (F : Fresh cells m track pairing owner prices discounts) {score : ℕ}
    (score-in : score ≤ left_out) (score-least : (k : ℕ) → k < length (row cells m track) → score ≤ at (row cells m track) k) where
  abbrev n : ℕ
  n = length prices

  row_long : length (row cells m track) ≡ m
  row_long = row_length cells m n track F.track_in F.good.shape.cells_long

  row_is : (k : ℕ) → k < m → at (row cells m track) k ≡ cell cells m track k
  row_is k h = row_at cells m n track F.track_in F.good.shape.cells_long k h

  least_in_row : (j : ℕ) → j < m → score ≤ cell cells m track j
  least_in_row j h = omega (arith, score-least j (omega (arith, row_long)), row_is j h)

  pub claimed_price : Claimed cells m n track pairing pairing owner (set prices track score) discounts
  claimed_price = record {
    good = priced cells m n track pairing owner prices discounts F.good F.track_in F.unpaired score score-in least_in_row;
    others = λ i d z. z;
  }

  pub claimed_pair : {j : ℕ} → j < length (row cells m track) → score < left_out → at (row cells m track) j ≡ score → at owner j ≡ none
      → Claimed cells m n track pairing (set pairing track j) (set owner j track) (set prices track score) discounts
  claimed_pair {j} k l e f = let h : j < m = omega (arith, row_long) in record {
    good = given cells m n track pairing owner prices discounts F.good F.track_in F.unpaired score score-in least_in_row j h f l (sym (row_is j h) ∙ e);
    others = λ i d z. get_or-set_other pairing track i j 0 d ∙ z;
  }

  prices₁_long : length (set prices track score) ≡ n
  prices₁_long = simp length-set refl

  -- where no report of that score is free
  pub contested : {report : ℕ} → score < left_out → (report < length (row cells m track)) × (at (row cells m track) report ≡ score) → Contest cells m track report pairing owner (set prices track score) discounts
  contested {report} l e =
      let report_in : report < m = omega (arith, e.0, row_long) in
      let q : cell cells m track report ≡ score = sym (row_is report report_in) ∙ e.1 in
      record {
        good = rw prices₁_long (priced cells m n track pairing owner prices discounts F.good F.track_in F.unpaired score score-in least_in_row);
        track_in = omega (arith, prices₁_long, F.track_in);
        unpaired = F.unpaired;
        report_in = report_in;
        admissible = omega arith;
        tight = omega (arith, get_or-set_same prices track score 0 (omega (arith, F.track_in)), F.zero report report_in);
      }

-- a report goes from its owner to a track without one
module _ {cells : List ℕ} {m track report : ℕ} {pairing owner prices discounts : List ℕ} (C : Contest cells m track report pairing owner prices discounts)
    (owner_in : at owner report < length prices) where
  abbrev holder : ℕ
  holder = at owner report

  abbrev pairing₁ : List ℕ
  pairing₁ = set pairing holder none

  own : Own cells m (length prices) pairing prices discounts report holder
  own = ⊎_elim (λ z. absurd (omega (arith, z.0, C.good.shape.tracks_few))) (λ y. y) (C.good.matched.owned report C.report_in (λ e. omega (arith, C.report_in, C.good.shape.reports_few)))

  owner_paired : at pairing holder < m
  owner_paired = omega (arith, own.back, C.report_in)

  vacant₁ : Match cells m (length prices) pairing₁ owner prices discounts report
  vacant₁ = (rw own.back at (vacated cells m (length prices) prices discounts pairing owner C.good.shape C.good.matched holder owner_in owner_paired))

  shape_vacated : Shape cells m (length prices) pairing₁ owner prices discounts
  shape_vacated = shape₁ cells m (length prices) prices discounts pairing owner C.good.shape C.good.matched holder owner_in owner_paired

  left : (i : ℕ) → at pairing i ≡ none → at pairing₁ i ≡ none
  left i z = stays cells m (length prices) prices discounts pairing owner C.good.shape C.good.matched holder owner_in owner_paired i (λ q. omega (arith, ap (at pairing) q, owner_paired, C.good.shape.reports_few)) ∙ z

  pub won : Claimed cells m (length prices) track pairing (set pairing₁ track report) (set owner report track) prices discounts
  won = record {
    good = record {
      shape = shape' cells m (length prices) prices discounts pairing₁ owner shape_vacated report C.report_in vacant₁ track C.track_in C.admissible C.tight;
      numbers = C.good.numbers;
      matched = (rw (left track C.unpaired) at (refit cells m (length prices) prices discounts pairing₁ owner shape_vacated report C.report_in vacant₁ track C.track_in C.admissible C.tight));
    };
    others = λ i d z. get_or-set_other pairing₁ track i report 0 d ∙ left i z;
  }
