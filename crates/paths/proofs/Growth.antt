-- The search's own steps: the tree planted, a report closed, and the two ends.
use Prim.Native.Nat.{ℕ, min, ◌+◌, ◌-◌, ◌≤◌, ◌<◌}
use mathlib.Core.Path.{◌≡◌, refl, ◌∙◌}
use mathlib.Core.Bool.{true, false, not}
use lib.Dec.{ltb, eqb}
use mathlib.Core.List.{List}
use mathlib.Core.Logic.{◌⊎◌, inl, inr, ⊎_elim}
use native.Mathlib.Omega.{arith}
use borrow.Author.Tests.{ltb-true, lt-ltb, eq-eqb, ne_eqb}
use lib.ListN.{length, length-set}
use Rattle.laws.specs.Lists.{at}
use Rattle.matching.specs.Pairing.{none, left_out}
use Rattle.passes.specs.Cells.{far, FromLabels}
use Rattle.paths.specs.State.{closed_at, Own, Good, Tree, Front, Standing, is_taken, EndsAt, Offered, Offerable, Searchable, Ended}
use Rattle.paths.specs.declared.End.{End}
use Rattle.paths.specs.declared.End.TheVariants.{Free, LeftOut}
use Rattle.laws.proofs.Stores.{le_or_lt}
use Rattle.laws.proofs.Tests.{and_both, and_left, and_right, clash}
use Rattle.paths.proofs.Advance.{advance, open_count_all, closings_j, low_now, still, open_or_closed', link_closed}

-- what fill gives: each entry of the list is v
abbrev pub AllAre : List ℕ → List ℕ → ℕ → Type 0
AllAre xs ys v = (length ys ≡ length xs) × ((k : ℕ) → k < length xs → at ys k ≡ v)

pub front_none : (m : ℕ) (closings : List ℕ) → Front 0 m closings
front_none m closings = record { upto = omega arith; closed = λ e h. absurd (omega arith) }

module _ {cells : List ℕ} {m track : ℕ} {pairing owner prices discounts labels₀ via₀ closings₀ : List ℕ} (R : Searchable cells m track pairing owner prices discounts labels₀ via₀ closings₀) where
  pub plant : {labels₁ labels₂ via₂ closings₁ : List ℕ} → AllAre labels₀ labels₁ left_out → AllAre closings₀ closings₁ 0 → Offered cells m discounts 0 (at prices track) track labels₁ via₀ labels₂ via₂
      → Tree cells m (length prices) pairing owner prices discounts track (left_out - at prices track) track 0 labels₂ via₂ closings₁
  plant {labels₁} {labels₂} {via₂} {closings₁} f g S = record {
    labels_long = S.labels_long;
    via_long = S.via_long;
    closings_long = g.0 ∙ R.rooms.closings_long;
    labels_in = λ j h. omega (arith, (S.steps j h).less, all_out j h);
    open_or_closed = λ j h. inl (all_open j h);
    root = λ j h a. omega (arith, (S.steps j h).at_most a);
    closed = λ c h s. absurd (omega (arith, all_open c h));
    sorted = λ c e h i s z. absurd (omega (arith, all_open c h));
    under = λ c h s. absurd (omega (arith, all_open c h));
    leaving_in = omega (arith, leaves);
    last = inl (refl, leaves);
    links = λ c h s. ⊎_elim (λ a. absurd (omega (arith, a.0, all_out c h)))
        (λ a. rw a.1.1.1 (record { there = R.track_in; admissible = a.0; how = inl (refl, omega (arith, a.1.0)) })) (S.steps c h).why;
    count = omega (arith, open_count_all closings₁ (λ k h. all_open k (omega (arith, g.0, R.rooms.closings_long))), g.0, R.rooms.closings_long);
  }
    where
      all_out : (k : ℕ) → k < m → at labels₁ k ≡ left_out
      all_out k h = f.1 k (omega (arith, R.rooms.labels_long))

      all_open : (k : ℕ) → k < m → at closings₁ k ≡ 0
      all_open k h = g.1 k (omega (arith, R.rooms.closings_long))

      leaves : left_out - at prices track + at prices track ≡ left_out
      leaves = omega (arith, R.good.numbers.price_in track R.track_in)

module _ {cells : List ℕ} {m track : ℕ} {pairing owner prices discounts : List ℕ} {leaving leaver k front : ℕ} {labels via closings : List ℕ} where
  pub keys : Good cells m (length prices) pairing owner prices discounts → Tree cells m (length prices) pairing owner prices discounts track leaving leaver k labels via closings → Front front m closings → FromLabels front labels closings leaving
  keys G T F = record {
    labelled = record {
      same = omega (arith, T.closings_long, T.labels_long);
      few = omega (arith, T.labels_long, G.shape.reports_few);
      small = λ e h.
          let g : e < m = omega (arith, T.labels_long) in
          ⊎_elim (λ z. omega (arith, T.labels_in e g)) (λ s. omega (arith, T.labels_in e g, T.count, G.shape.reports_few)) (T.open_or_closed e g);
    };
    capped = omega (arith, T.leaving_in);
    upto = omega (arith, F.upto, T.labels_long);
    closed = λ e h. omega (arith, F.closed e h, T.leaving_in);
  }

  module _ {j : ℕ} (S : Standing cells m (length prices) pairing owner prices discounts track leaving leaver k front j labels via closings) where
    abbrev G : Good cells m (length prices) pairing owner prices discounts
    G = S.good

    abbrev T : Tree cells m (length prices) pairing owner prices discounts track leaving leaver k labels via closings
    T = S.tree

    pub few : k ≤ m
    few = omega (arith, T.count)

    module _ (jm : j < m) where
      jl : j < length labels
      jl = omega (arith, T.labels_long)

      pop_open : at closings j ≡ 0
      pop_open = ⊎_elim (λ z. z) (λ s. absurd (omega (arith, S.nearest.here jl, T.leaving_in))) (T.open_or_closed j jm)

      pop_low : at labels j < leaving
      pop_low = omega (arith, S.nearest.here jl)

      pop_near : (e : ℕ) → e < m → at closings e ≡ 0 → at labels j ≤ at labels e
      pop_near e h z = omega (arith, S.nearest.least e (omega (arith, T.labels_long)) jl, pop_open)

      ended_free : at owner j ≡ none → Ended cells m (length prices) pairing owner prices discounts track (at labels j) (Free j) labels via (closed_at closings j k)
      ended_free free = record {
        labels_long = T.labels_long;
        labels_in = T.labels_in;
        via_long = T.via_long;
        closings_long = simp length-set T.closings_long;
        root = T.root;
        price_in = omega (arith, T.leaving_in, pop_low);
        near = λ c h l. ⊎_elim (λ z. absurd (omega (arith, pop_near c h z)))
            (λ s. let x = T.closed c h s.0 in record {
              own = x.own;
              low = omega arith;
              seen = x.seen;
              leave = omega (arith, x.leave, pop_low);
            })
            (T.open_or_closed c h);
        low = low_now T jm pop_open;
        links = λ c h s. link_closed T jm pop_open c (at via c) (T.links c h (omega (arith, low_now T jm pop_open c h s, pop_low, T.leaving_in)));
        ends = (jm, (free, (omega (arith, closings_j T jm pop_open), refl)));
      }

    module _ (t : is_taken owner j ≡ true) where
      pub next_in : j < m
      next_in = omega (arith, ltb-true j (length owner) (and_left _ _ t), G.shape.owner_long)

      pub own_j : Own cells m (length prices) pairing prices discounts j (at owner j)
      own_j = ⊎_elim (λ a. absurd (clash {b = not (eqb (at owner j) none)} (and_right (ltb j (length owner)) _ t) (rw (eq-eqb (at owner j) none a.0) refl))) (λ o. o) (G.matched.owned j next_in (λ e. omega (arith, next_in, G.shape.reports_few)))

      -- leaving' and leaver' are what leaving a track out then costs, and which
      pub passed_on : {leaving' leaver' : ℕ} {labels' via' : List ℕ} → let cost = at labels j + (left_out - at prices (at owner j)) in
          leaving' ≡ min cost leaving
          → ((cost < leaving) × (leaver' ≡ at owner j)) ⊎ ((leaving ≤ cost) × (leaver' ≡ leaver))
          → Offered cells m discounts (at labels j) (at prices (at owner j)) (at owner j) labels via labels' via'
          → Tree cells m (length prices) pairing owner prices discounts track leaving' leaver' (k + 1) labels' via' (closed_at closings j k)
      passed_on {leaving'} {leaver'} L K S' =
          let cost = at labels j + (left_out - at prices (at owner j)) in
          let e : cost + at prices (at owner j) ≡ at labels j + left_out = omega (arith, G.numbers.price_in (at owner j) own_j.there) in
          advance T next_in (pop_open next_in) G.numbers (pop_low next_in) (pop_near next_in) own_j
          (omega arith) (omega arith)
          (omega (arith, pop_low next_in))
          (⊎_elim (λ g. inr (omega arith, g.1)) (λ g. inl (omega arith, g.1)) K)
          S'

      -- front' is the first report from front on that is open
      module _ {front' : ℕ} (O : (front ≤ front') × ((front' ≤ length (closed_at closings j k)) × ((e : ℕ) → e < front' → front ≤ e → at (closed_at closings j k) e ≡ 0 → ⊥))) where
        front_in : front' ≤ m
        front_in = omega (arith, O.1.0, T.closings_long, length-set closings j (far + k))

        pub front_more : Front front' m (closed_at closings j k)
        front_more = record {
          upto = front_in;
          closed = λ e h. ⊎_elim
              (λ l. ⊎_elim (λ z. absurd (O.1.1 e h l z)) (λ s. s.0) (open_or_closed' T next_in (pop_open next_in) e (omega (arith, front_in))))
              (λ l. omega (arith, S.behind.closed e l, still T next_in (pop_open next_in) e (S.behind.closed e l)))
              (le_or_lt front e);
        }

        pub fit_row : Offerable cells m front' (at owner j) (at labels j) prices discounts labels via
        fit_row = record {
          front_in = front_in;
          before = λ e h. low_now T next_in (pop_open next_in) e (omega (arith, front_in)) (front_more.closed e h);
          track_in = own_j.there;
          cells_long = G.shape.cells_long;
          cells_good = G.shape.cells_good;
          discounts_long = G.shape.discounts_long;
          labels_long = T.labels_long;
          via_long = T.via_long;
          from_in = T.labels_in j next_in;
          numbers = G.numbers;
          labels_in = T.labels_in;
        }

    -- not taken, but a report: it is free
    free_j : j < m → is_taken owner j ≡ false → at owner j ≡ none
    free_j jm t = ⊎_elim (λ a. a.0)
        (λ o. absurd (clash {b = is_taken owner j} (and_both (lt-ltb j (length owner) (omega (arith, G.shape.owner_long))) (rw (ne_eqb (at owner j) none (λ z. omega (arith, o.there, G.shape.tracks_few))) refl)) t))
        (G.matched.owned j jm (λ e. omega (arith, G.shape.reports_few)))

    ended_leave : m ≤ j → Ended cells m (length prices) pairing owner prices discounts track leaving (LeftOut leaver) labels via closings
    ended_leave out = record {
      labels_long = T.labels_long;
      labels_in = T.labels_in;
      via_long = T.via_long;
      closings_long = T.closings_long;
      root = T.root;
      price_in = T.leaving_in;
      near = λ c h l. ⊎_elim (λ z. absurd (omega (arith, S.nearest.nobody c (omega (arith, T.labels_long)) (omega (arith, T.labels_long))))) (λ s. T.closed c h s.0) (T.open_or_closed c h);
      low = λ c h s. (T.closed c h s).low;
      links = λ c h s. T.links c h (T.under c h s);
      ends = T.last;
    }

    -- the search has ended: next is not taken
    pub ended : {labels' via' closings' : List ℕ} {reach : ℕ} {end : End} → is_taken owner j ≡ false
        → EndsAt (length labels) leaving leaver k j labels closings closings' reach end × ((labels' ≡ labels) × (via' ≡ via))
        → Ended cells m (length prices) pairing owner prices discounts track reach end labels' via' closings'
    ended t (E, (l, v)) = ⊎_elim
        (λ out. let e = E.nowhere (omega (arith, T.labels_long)) in rw (l, v, e.0, e.1.0, e.1.1) (ended_leave out))
        (λ jm. let e = E.free (omega (arith, T.labels_long)) in rw (l, v, e.0, e.1.0, e.1.1) (ended_free jm (free_j jm t))) (le_or_lt m j)
