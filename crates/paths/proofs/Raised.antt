-- The prices after a search: all stays fair, the pairs stay tight, and the way back is tight.
use Prim.Native.Nat.{ℕ, ◌+◌, ◌-◌, ◌≤◌, ◌<◌}
use mathlib.Core.Path.{◌≡◌, refl, ap, sym, subst, ◌∙◌}
use mathlib.Core.List.{List}
use mathlib.Core.Logic.{◌⊎◌, inl, inr, ⊎_elim}
use native.Mathlib.Omega.{arith}
use lib.ListN.{length, set, length-set}
use lib.Seq.{get_or-set_same, get_or-set_other}
use Rattle.laws.specs.Lists.{at}
use Rattle.matching.specs.Pairing.{none, left_out}
use Rattle.passes.specs.Cells.{Searched, far, PricesUp, DiscountsUp}
use Rattle.paths.specs.State.{OnEnd, cell, Shape, Prices, Own, Match, Closed, Link, Tight, Searchable, Ended, Finishable, Finished, PairedOrOut, Inserted, Reached}
use Rattle.paths.specs.declared.End.{End}
use Rattle.paths.specs.declared.End.TheVariants.{Free, LeftOut}
use Rattle.laws.proofs.Stores.{le_or_lt, same_or}
use Rattle.paths.proofs.Swap.{reshaped, free_zero}

-- what follows of a free report, and of a track that is left out, follows of the end of a search
on_end : (end : End) {P Q P' Q' : ℕ → Type 0} → ((report : ℕ) → P report → P' report) → ((track : ℕ) → Q track → Q' track) → OnEnd end P Q → OnEnd end P' Q'
on_end (Free report) f g a = f report a
on_end (LeftOut track) f g a = g track a

-- what the search leaves
pub searched : {cells : List ℕ} {m n track : ℕ} {pairing owner prices discounts : List ℕ} {reach : ℕ} {end : End} {labels via closings : List ℕ}
    → Ended cells m n pairing owner prices discounts track reach end labels via closings → Searched labels reach
searched E = record { reach_in = omega (arith, E.price_in); labels_in = λ j h. E.labels_in j (omega (arith, E.labels_long)) }

module _ {cells : List ℕ} {m track : ℕ} {pairing owner prices discounts labels₀ via₀ closings₀ : List ℕ} (R : Searchable cells m track pairing owner prices discounts labels₀ via₀ closings₀)
    {reach : ℕ} {end : End} {labels via closings : List ℕ} (E : Ended cells m (length prices) pairing owner prices discounts track reach end labels via closings)
    {prices₁ discounts₁ : List ℕ} (PU : PricesUp pairing labels reach prices prices₁) (DU : DiscountsUp labels reach discounts discounts₁) where
  abbrev n : ℕ
  n = length prices

  abbrev prices₂ : List ℕ
  prices₂ = set prices₁ track (at prices₁ track + reach)

  price₁_track : at prices₁ track ≡ at prices track
  price₁_track = (PU.up track R.track_in).1 (omega (arith, R.unpaired, E.labels_long, R.good.shape.reports_few))

  price_track : at prices₂ track ≡ at prices track + reach
  price_track = get_or-set_same prices₁ track (at prices₁ track + reach) 0 (omega (arith, PU.prices_long, R.track_in)) ∙ omega (arith, price₁_track)

  price_other : (i : ℕ) → (i ≡ track → ⊥) → at prices₂ i ≡ at prices₁ i
  price_other i d = get_or-set_other prices₁ track i (at prices₁ track + reach) 0 d

  not_track : (i : ℕ) → at pairing i < m → i ≡ track → ⊥
  not_track i h q = omega (arith, ap (at pairing) q, R.unpaired, R.good.shape.reports_few)

  price_paired : (i : ℕ) → i < n → at pairing i < m → at prices₂ i ≡ at prices i + (reach - at labels (at pairing i))
  price_paired i h p = price_other i (not_track i p) ∙ (PU.up i h).0 (omega (arith, E.labels_long))

  price_unpaired : (i : ℕ) → i < n → (i ≡ track → ⊥) → at pairing i ≡ none → at prices₂ i ≡ at prices i
  price_unpaired i h d p = price_other i d ∙ (PU.up i h).1 (omega (arith, E.labels_long, R.good.shape.reports_few))

  discount_is : (j : ℕ) → j < m → at discounts₁ j ≡ at discounts j + (reach - at labels j)
  discount_is j h = DU.up j (omega (arith, R.good.shape.discounts_long))

  -- a track is the one that is inserted, in a pair, or in none
  three : (G : Type 0) (i : ℕ) → i < n → (i ≡ track → G)
      → ((at pairing i < m) → (at owner (at pairing i) ≡ i) → G) → ((i ≡ track → ⊥) → at pairing i ≡ none → G) → G
  three G i h f g k = ⊎_elim f (λ d. ⊎_elim (λ z. k d z) (λ z. g z.0 z.1.1) (R.good.matched.paired i h)) (same_or i track)

  -- the closed report of a track whose label is below reach
  near_track : (i : ℕ) → (p : at pairing i < m) → at owner (at pairing i) ≡ i → at labels (at pairing i) < reach → Closed cells m n pairing prices discounts reach labels (at pairing i) i
  near_track i p b l = (rw b at (E.near (at pairing i) p l))

  fair_now : (i j : ℕ) → i < n → j < m → cell cells m i j < far → at prices₂ i ≤ cell cells m i j + at discounts₁ j
  fair_now i j h g a = three (at prices₂ i ≤ cell cells m i j + at discounts₁ j) i h
      (λ q. rw q (omega (arith, price_track, discount_is j g, E.root j g (rw q at a))))
      (λ p b. ⊎_elim (λ l. omega (arith, price_paired i h p, discount_is j g, R.good.numbers.fair i j h g a))
      (λ l. omega (arith, price_paired i h p, discount_is j g, (near_track i p b l).seen j g a)) (le_or_lt reach (at labels (at pairing i))))
      (λ d z. omega (arith, price_unpaired i h d z, discount_is j g, R.good.numbers.fair i j h g a))

  price_in_now : (i : ℕ) → i < n → at prices₂ i ≤ left_out
  price_in_now i h = three (at prices₂ i ≤ left_out) i h
      (λ q. rw q (omega (arith, price_track, E.price_in)))
      (λ p b. ⊎_elim (λ l. omega (arith, price_paired i h p, R.good.numbers.price_in i h))
      (λ l. omega (arith, price_paired i h p, (near_track i p b l).leave)) (le_or_lt reach (at labels (at pairing i))))
      (λ d z. omega (arith, price_unpaired i h d z, R.good.numbers.price_in i h))

  discount_in_now : (j : ℕ) → j < m → at discounts₁ j ≤ left_out
  discount_in_now j g = ⊎_elim (λ l. omega (arith, discount_is j g, R.good.numbers.discount_in j g))
      (λ l. let x = E.near j g l in omega (arith, discount_is j g, x.leave, x.own.tight)) (le_or_lt reach (at labels j))

  fair₂ : Prices cells m n prices₂ discounts₁
  fair₂ = record { fair = fair_now; price_in = price_in_now; discount_in = discount_in_now }

  own_now : (j : ℕ) → j < m → (i : ℕ) → Own cells m n pairing prices discounts j i → Own cells m n pairing prices₂ discounts₁ j i
  own_now j g i o =
      let p : at pairing i < m = omega (arith, o.back) in
      record {
        there = o.there;
        back = o.back;
        admissible = o.admissible;
        tight = omega (arith, price_paired i o.there p, discount_is j g, o.tight, ap (at labels) o.back);
      }

  free_now : (j : ℕ) → j < m → at owner j ≡ none → at discounts j ≡ 0 → at discounts₁ j ≡ 0
  free_now j g z e = ⊎_elim (λ l. omega (arith, discount_is j g)) (λ l. absurd (omega (arith, (E.near j g l).own.there, R.good.shape.tracks_few))) (le_or_lt reach (at labels j))

  match₂ : Match cells m n pairing owner prices₂ discounts₁ none
  match₂ = record {
    owned = λ j g d. ⊎_elim (λ a. inl (a.0, free_now j g a.0 a.1)) (λ o. inr (own_now j g (at owner j) o)) (R.good.matched.owned j g d);
    paired = R.good.matched.paired;
  }

  shape₂ : Shape cells m n pairing owner prices₂ discounts₁
  shape₂ = reshaped R.good.shape refl refl (simp length-set PU.prices_long) DU.discounts_long

  tight₂ : (c : ℕ) → c < m → far ≤ at closings c → (i : ℕ) → Link cells m n pairing prices discounts track labels closings c i → Tight cells m n pairing prices₂ discounts₁ track closings c i
  tight₂ c g s i x = record {
    there = x.there;
    admissible = x.admissible;
    tight = ⊎_elim (λ a. omega (arith, ap (at prices₂) a.0, price_track, a.1, discount_is c g, E.low c g s))
        (λ a. omega (arith, price_paired i x.there a.0, a.1.1.1, discount_is c g, E.low c g s, E.low (at pairing i) a.0 a.1.0)) x.how;
    next = ⊎_elim (λ a. inl a.0)
        (λ a. inr (a.0, (a.1.0, ⊎_elim (λ z. absurd (omega arith)) (λ b. b) a.1.1.0))) x.how;
  }

  finishable_track : Finishable cells m n prices₂ discounts₁ track via closings end pairing owner
  finishable_track = record {
    shape = shape₂;
    via_long = E.via_long;
    closings_long = E.closings_long;
    track_in = R.track_in;
    unpaired = R.unpaired;
    matched = match₂;
    way_back = λ b. record { step = λ c g s l. tight₂ c g s (at via c) (E.links c g s) };
    ends = on_end end (λ report a. (a.0, (a.1.0, a.1.1.0)))
        (λ leaver a. ⊎_elim (λ b. inl (b.0, omega (arith, price_track, b.1)))
        (λ b. inr (b.0, (b.1.0, (b.1.1.0, omega (arith, price_paired leaver b.0 b.1.0, b.1.1.1, E.low (at pairing leaver) b.1.0 b.1.1.0))))) a) E.ends;
  }

  inserted_track : {pairing' owner' : List ℕ} → Finished cells m n prices₂ discounts₁ track pairing owner pairing' owner' → Inserted cells m n track pairing prices pairing' owner' prices₂ discounts₁
  inserted_track {pairing'} S = record {
    good = record { shape = S.shape; numbers = fair₂; matched = S.matched };
    done = λ i h a. three (PairedOrOut m pairing' prices₂ i) i h (λ q. rw q S.track_done) (λ p b. S.done i h p)
        (λ d z. ⊎_elim (λ p. absurd (omega (arith, R.good.shape.reports_few))) (λ e. inr (price_unpaired i h d z ∙ e)) a);
    track_done = S.track_done;
  }

  -- what is left of a paired track's way to a free report
  rises : (i j : ℕ) → i < n → j < m → (at pairing i < m) ⊎ (i ≡ track) → at owner j ≡ none → cell cells m i j < far
      → ((at pairing i < m) × (at prices₂ i ≡ at prices i)) ⊎ (at prices₂ i + (at labels j - reach) ≤ cell cells m i j)
  rises i j h g f z a =
      let discount = free_zero R.good j g z in
      let discount₁ = free_now j g z discount in
      let under = fair_now i j h g a in
      ⊎_elim
      (λ p. ⊎_elim (λ l. inl (p, omega (arith, price_paired i h p)))
      (λ l. let b = ⊎_elim (λ y. absurd (omega (arith, R.good.shape.reports_few))) (λ y. y.1.1) (R.good.matched.paired i h) in
      inr (omega (arith, price_paired i h p, (near_track i p b l).seen j g a))) (le_or_lt reach (at labels (at pairing i))))
      (λ q. inr (omega (arith, ap (at prices₂) q, price_track, E.root j g (rw q at a), ap (λ (k : ℕ). cell cells m k j) q)))
      f

  reached_track : {pairing' owner' : List ℕ} → Finished cells m n prices₂ discounts₁ track pairing owner pairing' owner' → Reached cells m n pairing owner prices labels reach pairing' owner' prices₂
  reached_track S = record {
    labels_long = E.labels_long;
    searched = searched E;
    free = S.moved.free;
    rise = λ i j h g p z a. rises i j h g (S.moved.came_in i h p) (S.moved.free j g z) a;
  }

  prices₂_long : length prices₂ ≡ length prices
  prices₂_long = simp length-set PU.prices_long

  pub finishable : Finishable cells m (length prices₂) prices₂ discounts₁ track via closings end pairing owner
  finishable = subst (λ (k : ℕ). Finishable cells m k prices₂ discounts₁ track via closings end pairing owner) (sym prices₂_long) finishable_track

  module _ {pairing' owner' : List ℕ} (S : Finished cells m (length prices₂) prices₂ discounts₁ track pairing owner pairing' owner') where
    finished_track : Finished cells m n prices₂ discounts₁ track pairing owner pairing' owner'
    finished_track = subst (λ (k : ℕ). Finished cells m k prices₂ discounts₁ track pairing owner pairing' owner') prices₂_long S

    pub inserted : Inserted cells m n track pairing prices pairing' owner' prices₂ discounts₁
    inserted = inserted_track finished_track

    pub reached : Reached cells m n pairing owner prices labels reach pairing' owner' prices₂
    reached = reached_track finished_track
