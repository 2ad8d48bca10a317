-- The vacant report goes to track i, whose report is vacant next.
use Prim.Native.Nat.{ℕ, ◌+◌, ◌≤◌, ◌<◌}
use mathlib.Core.Path.{◌≡◌, refl, ap, sym, ◌∙◌}
use mathlib.Core.List.{List}
use mathlib.Core.Logic.{◌⊎◌, inl, inr, ⊎_elim}
use native.Mathlib.Omega.{arith}
use lib.ListN.{length, set, length-set}
use lib.Seq.{get_or-set_same, get_or-set_other}
use Rattle.laws.specs.Lists.{at}
use Rattle.matching.specs.Pairing.{none}
use Rattle.passes.specs.Cells.{far}
use Rattle.paths.specs.State.{cell, Shape, Own, Match, Good, Tight, WayBack, Vacant, Unbroken, Moved, Flips}
use Rattle.laws.proofs.Stores.{same_or}

-- other lists of the same lengths
pub reshaped : {cells : List ℕ} {m n : ℕ} {pairing owner prices discounts pairing' owner' prices' discounts' : List ℕ} → Shape cells m n pairing owner prices discounts → length pairing' ≡ length pairing → length owner' ≡ length owner
    → length prices' ≡ length prices → length discounts' ≡ length discounts → Shape cells m n pairing' owner' prices' discounts'
reshaped S pairing-as owner_as prices-as discounts_as = record {
  cells_long = S.cells_long;
  pairing_long = pairing-as ∙ S.pairing_long;
  owner_long = owner_as ∙ S.owner_long;
  prices_long = prices-as ∙ S.prices_long;
  discounts_long = discounts_as ∙ S.discounts_long;
  tracks_few = S.tracks_few;
  reports_few = S.reports_few;
  cells_good = S.cells_good;
}

-- a report that no track has is without discount
pub free_zero : {cells : List ℕ} {m n : ℕ} {pairing owner prices discounts : List ℕ} → Good cells m n pairing owner prices discounts → (j : ℕ) → j < m → at owner j ≡ none → at discounts j ≡ 0
free_zero G j h z =
    ⊎_elim (λ a. a.1) (λ o. absurd (omega (arith, o.there, G.shape.tracks_few))) (G.matched.owned j h (λ e. omega (arith, G.shape.reports_few)))

-- and may count as vacant
pub free_vacant : {cells : List ℕ} {m n : ℕ} {pairing owner prices discounts : List ℕ} → Shape cells m n pairing owner prices discounts → Match cells m n pairing owner prices discounts none
    → (j : ℕ) → at owner j ≡ none → Match cells m n pairing owner prices discounts j
free_vacant {owner = owner} S M j z = record {
  owned = λ k h d. M.owned k h (λ e. omega (arith, S.reports_few));
  paired = λ i h. ⊎_elim inl (λ a. inr (a.0, ((λ e. omega (arith, sym a.1.1 ∙ ap (at owner) e ∙ z, S.tracks_few)), a.1.1))) (M.paired i h);
}

module _ (cells : List ℕ) (m n : ℕ) (prices discounts pairing owner : List ℕ) (S : Shape cells m n pairing owner prices discounts) (vacant : ℕ) (vacant_in : vacant < m)
    (M : Match cells m n pairing owner prices discounts vacant) (i : ℕ) (ir : i < n) (adm : cell cells m i vacant < far) (tight : at prices i ≡ cell cells m i vacant + at discounts vacant) where
  abbrev pairing' : List ℕ
  pairing' = set pairing i vacant

  abbrev owner' : List ℕ
  owner' = set owner vacant i

  pairing_i : at pairing' i ≡ vacant
  pairing_i = get_or-set_same pairing i vacant 0 (omega (arith, S.pairing_long))

  pairing_other : (k : ℕ) → (k ≡ i → ⊥) → at pairing' k ≡ at pairing k
  pairing_other k d = get_or-set_other pairing i k vacant 0 d

  owner_vacant : at owner' vacant ≡ i
  owner_vacant = get_or-set_same owner vacant i 0 (omega (arith, S.owner_long))

  owner_other : (k : ℕ) → (k ≡ vacant → ⊥) → at owner' k ≡ at owner k
  owner_other k d = get_or-set_other owner vacant k i 0 d

  own_vacant : Own cells m n pairing' prices discounts vacant (at owner' vacant)
  own_vacant = rw owner_vacant (record { there = ir; back = pairing_i; admissible = adm; tight = tight })

  own_j : (j : ℕ) → (j ≡ vacant → ⊥) → (j ≡ at pairing i → ⊥) → Own cells m n pairing prices discounts j (at owner j) → Own cells m n pairing' prices discounts j (at owner' j)
  own_j j d e o = rw (owner_other j d) (record {
    there = o.there;
    back = pairing_other (at owner j) (λ q. e (sym o.back ∙ ap (at pairing) q)) ∙ o.back;
    admissible = o.admissible;
    tight = o.tight;
  })

  pub refit : Match cells m n pairing' owner' prices discounts (at pairing i)
  refit = record {
    owned = λ j g e. ⊎_elim (λ q. inr (rw q own_vacant))
        (λ d. ⊎_elim (λ a. inl (owner_other j d ∙ a.0, a.1)) (λ o. inr (own_j j d e o)) (M.owned j g d)) (same_or j vacant);
    paired = λ k g. ⊎_elim
        (λ q. let e : at pairing' k ≡ vacant = ap (at pairing') q ∙ pairing_i in inr (rw e (
          vacant_in,
          (⊎_elim (λ z. λ e. omega (arith, S.reports_few)) (λ z. λ e. z.1.0 (sym e)) (M.paired i ir), owner_vacant ∙ sym q),
        )))
        (λ d. ⊎_elim (λ z. inl (pairing_other k d ∙ z))
        (λ z. inr (rw (pairing_other k d) (
          z.0,
          (
            (λ e. ⊎_elim (λ y. omega (arith, S.reports_few, z.0)) (λ y. d (sym z.1.1 ∙ ap (at owner) e ∙ y.1.1)) (M.paired i ir)),
            owner_other (at pairing k) z.1.0 ∙ z.1.1,
          ),
        )))
        (M.paired k g))
        (same_or k i);
  }

  pub shape' : Shape cells m n pairing' owner' prices discounts
  shape' = reshaped S (simp length-set) (simp length-set) refl refl

-- a track gives its report up: it is vacant
module _ (cells : List ℕ) (m n : ℕ) (prices discounts pairing owner : List ℕ) (S : Shape cells m n pairing owner prices discounts)
    (M : Match cells m n pairing owner prices discounts none) (t : ℕ) (tn : t < n) (tm : at pairing t < m) where
  abbrev pairing₁ : List ℕ
  pairing₁ = set pairing t none

  pub gone : at pairing₁ t ≡ none
  gone = get_or-set_same pairing t none 0 (omega (arith, S.pairing_long))

  pub stays : (k : ℕ) → (k ≡ t → ⊥) → at pairing₁ k ≡ at pairing k
  stays k d = get_or-set_other pairing t k none 0 d

  back : at owner (at pairing t) ≡ t
  back = ⊎_elim (λ z. absurd (omega (arith, S.reports_few))) (λ z. z.1.1) (M.paired t tn)

  own₁ : (j : ℕ) → (j ≡ at pairing t → ⊥) → Own cells m n pairing prices discounts j (at owner j) → Own cells m n pairing₁ prices discounts j (at owner j)
  own₁ j e o = record {
    there = o.there;
    back = stays (at owner j) (λ q. e (sym o.back ∙ ap (at pairing) q)) ∙ o.back;
    admissible = o.admissible;
    tight = o.tight;
  }

  pub vacated : Match cells m n pairing₁ owner prices discounts (at pairing t)
  vacated = record {
    owned = λ j h d. ⊎_elim inl (λ o. inr (own₁ j d o)) (M.owned j h (λ e. omega (arith, S.reports_few)));
    paired = λ i h. ⊎_elim (λ q. inl (ap (at pairing₁) q ∙ gone))
        (λ d. ⊎_elim (λ z. inl (stays i d ∙ z))
        (λ z. inr (rw (stays i d) (z.0, ((λ e. d (sym z.1.1 ∙ ap (at owner) e ∙ back)), z.1.1))))
        (M.paired i h))
        (same_or i t);
  }

  pub shape₁ : Shape cells m n pairing₁ owner prices discounts
  shape₁ = reshaped S (simp length-set) refl refl refl

-- the way back from a report outlives a store at that report's track
module _ (cells : List ℕ) (m n : ℕ) (prices discounts pairing : List ℕ) (track : ℕ) (via closings : List ℕ) (i v bound : ℕ)
    (K : WayBack cells m n pairing prices discounts track via closings bound) (low : at closings (at pairing i) ≤ bound) where
  tight_set : (c : ℕ) → at closings c ≤ at closings (at pairing i) → (k : ℕ) → Tight cells m n pairing prices discounts track closings c k → Tight cells m n (set pairing i v) prices discounts track closings c k
  tight_set c l k t = record {
    there = t.there;
    admissible = t.admissible;
    tight = t.tight;
    next = ⊎_elim inl (λ a.
        let e : at (set pairing i v) k ≡ at pairing k = get_or-set_other pairing i k v 0 (λ q. omega (arith, a.1.1, ap (at closings) (ap (at pairing) q))) in
        inr (rw e a)) t.next;
  }

  pub way_back_set : WayBack cells m n (set pairing i v) prices discounts track via closings (at closings (at pairing i))
  way_back_set = record { step = λ c g s l. tight_set c l (at via c) (K.step c g s (omega arith)) }

module _ {cells : List ℕ} {m n : ℕ} {prices discounts : List ℕ} {track : ℕ} {via closings pairing₀ owner₀ pairing owner : List ℕ} {vacant : ℕ}
    (F : Flips cells m n prices discounts track via closings pairing₀ owner₀ pairing owner vacant) (some : vacant ≡ none → ⊥) where
  vacancy : Vacant cells m n prices discounts track via closings pairing owner vacant
  vacancy = ⊎_elim (λ x. x) (λ x. absurd (some x.0)) F.state

  abbrev i : ℕ
  i = at via vacant

  tight_vacant : Tight cells m n pairing prices discounts track closings vacant i
  tight_vacant = vacancy.way_back.step vacant vacancy.vacant_in vacancy.vacant_closed (omega arith)

  abbrev pairing_now : List ℕ
  pairing_now = set pairing i vacant

  pairing_now_i : at pairing_now i ≡ vacant
  pairing_now_i = get_or-set_same pairing i vacant 0 (omega (arith, F.shape.pairing_long, tight_vacant.there))

  match_now : Match cells m n pairing_now (set owner vacant i) prices discounts (at pairing i)
  match_now = refit cells m n prices discounts pairing owner F.shape vacant vacancy.vacant_in vacancy.matched i tight_vacant.there tight_vacant.admissible tight_vacant.tight

  kept_now : (k : ℕ) → k < n → at pairing₀ k < m → at pairing_now k < m
  kept_now k g l = ⊎_elim (λ q. omega (arith, ap (at pairing_now) q, pairing_now_i, vacancy.vacant_in)) (λ d. omega (arith, get_or-set_other pairing i k vacant 0 d, F.kept k g l)) (same_or k i)

  moved_now : Moved m n track pairing₀ owner₀ pairing_now (set owner vacant i)
  moved_now = record {
    came_in = λ k g l. ⊎_elim (λ q. rw q (⊎_elim inr (λ a. F.moved.came_in i tight_vacant.there a.0) tight_vacant.next))
        (λ d. F.moved.came_in k g (omega (arith, get_or-set_other pairing i k vacant 0 d))) (same_or k i);
    free = λ j g z. ⊎_elim (λ q. absurd (omega (arith, ap (at (set owner vacant i)) q, get_or-set_same owner vacant i 0 (omega (arith, F.shape.owner_long, vacancy.vacant_in)), tight_vacant.there, F.shape.tracks_few)))
        (λ d. F.moved.free j g (sym (get_or-set_other owner vacant j i 0 d) ∙ z)) (same_or j vacant);
  }

  state_now : Vacant cells m n prices discounts track via closings pairing_now (set owner vacant i) (at pairing i) ⊎ ((at pairing i ≡ none) × Unbroken cells m n prices discounts track pairing_now (set owner vacant i))
  state_now = ⊎_elim
      (λ q. let z : at pairing i ≡ none = ap (at pairing) q ∙ vacancy.unpaired in
      inr (z, record { matched = (rw z at match_now); placed = omega (arith, ap (at pairing_now) q, pairing_now_i, vacancy.vacant_in) }))
      (λ a. inl (record {
        vacant_in = a.0;
        vacant_closed = a.1.0;
        matched = match_now;
        way_back = way_back_set cells m n prices discounts pairing track via closings i vacant (at closings vacant) vacancy.way_back (omega (arith, a.1.1));
        unpaired = get_or-set_other pairing i track vacant 0 (λ q. omega (arith, ap (at pairing) q, vacancy.unpaired, a.0, F.shape.reports_few)) ∙ vacancy.unpaired;
      }))
      tight_vacant.next

  pub flip_step : Flips cells m n prices discounts track via closings pairing₀ owner₀ pairing_now (set owner vacant i) (at pairing i)
  flip_step = record {
    shape = shape' cells m n prices discounts pairing owner F.shape vacant vacancy.vacant_in vacancy.matched i tight_vacant.there tight_vacant.admissible tight_vacant.tight;
    via_long = F.via_long;
    closings_long = F.closings_long;
    track_in = F.track_in;
    moved = moved_now;
    kept = kept_now;
    state = state_now;
  }
