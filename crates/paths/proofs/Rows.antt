-- A track's row of the sheet, as a part of the flat list, from report front on.
use Prim.Native.Nat.{ℕ, ◌+◌, ◌-◌, ◌*◌, ◌≤◌, ◌<◌}
use mathlib.Core.Path.{◌≡◌, refl, ap, sym, subst, ◌∙◌}
use mathlib.Core.List.{List}
use mathlib.Core.Logic.{inl, ⊎_elim}
use native.Mathlib.Omega.{arith}
use native.Mathlib.Nat.{le_refl}
use borrow.Rule.Slice.PartMut.{put_mid, same_len_mid}
use lib.ListN.{length, take, drop, length-drop}
use lib.Seq.{get_or-take, get_or-drop, length-take-le}
use Rattle.laws.proofs.Sums.{row_in}
use Rattle.laws.proofs.Parts.{part, part_length, part_at, put_before, put_in}
use Rattle.laws.proofs.Stores.{le_or_lt}
use Rattle.laws.specs.Lists.{at}
use Rattle.passes.specs.Cells.{Step, Fair, Relaxed}
use Rattle.paths.specs.State.{cell, Offerable, Offered}

-- a list from front on
abbrev pub rest : List ℕ → ℕ → List ℕ
rest xs front = part xs front (length xs)

-- row i, and row i from front on
abbrev pub row : List ℕ → ℕ → ℕ → List ℕ
row cells m i = take m (drop (i * m) cells)

abbrev row_from : List ℕ → ℕ → ℕ → ℕ → List ℕ
row_from cells m i front = rest (row cells m i) front

module _ (cells : List ℕ) (m n i : ℕ) (h : i < n) (l : length cells ≡ n * m) where
  pub row_end : i * m + m ≤ length cells
  row_end = row_in i n m (length cells) h (omega arith)

  pub row_length : length (row cells m i) ≡ m
  row_length = length-take-le m (drop (i * m) cells) (rw length-drop (omega (arith, row_end)))

  pub row_at : (k : ℕ) → k < m → at (row cells m i) k ≡ cell cells m i k
  row_at k g = get_or-take m (drop (i * m) cells) k 0 g ∙ get_or-drop (i * m) cells k 0

  from_length : (front : ℕ) → front ≤ m → length (row_from cells m i front) ≡ m - front
  from_length front g = part_length (row cells m i) front (length (row cells m i)) (le_refl _) ∙ ap (λ (x : ℕ). x - front) row_length

  from_at : (front k : ℕ) → k < m - front → at (row_from cells m i front) k ≡ cell cells m i (front + k)
  from_at front k g = part_at (row cells m i) front (length (row cells m i)) k (omega (arith, row_length)) ∙ row_at (front + k) (omega arith)

module _ (cells : List ℕ) (m front i from : ℕ) (prices discounts labels via : List ℕ) (F : Offerable cells m front i from prices discounts labels via) where
  abbrev n : ℕ
  n = length prices

  -- report front + k of a list from front on
  rest_length : (xs : List ℕ) → length xs ≡ m → length (rest xs front) ≡ m - front
  rest_length xs e = part_length xs front (length xs) (le_refl _) ∙ ap (λ (x : ℕ). x - front) e

  rest_at : (xs : List ℕ) → length xs ≡ m → (k : ℕ) → k < m - front → at (rest xs front) k ≡ at xs (front + k)
  rest_at xs e k h = part_at xs front (length xs) k (omega arith)

  fair_i : Fair (row_from cells m i front) (rest discounts front) (rest labels front) (rest via front) from (at prices i)
  fair_i = record {
    cells_long = from_length cells m n i F.track_in F.cells_long front F.front_in ∙ sym rest_labels_long;
    discounts_long = rest_length discounts F.discounts_long ∙ sym rest_labels_long;
    via_long = rest_length via F.via_long ∙ sym rest_labels_long;
    cells_good = λ k h.
        let g : k < m - front = omega (arith, rest_labels_long) in
        rw (from_at cells m n i F.track_in F.cells_long front k g) (F.cells_good (i * m + (front + k)) (omega (arith, row_end cells m n i F.track_in F.cells_long)));
    from_in = F.from_in;
    price_in = F.numbers.price_in i F.track_in;
    discount_in = λ k h. let g : k < m - front = omega (arith, rest_labels_long) in omega (arith, rest_at discounts F.discounts_long k g, F.numbers.discount_in (front + k) (omega arith));
    labels_in = λ k h. let g : k < m - front = omega (arith, rest_labels_long) in omega (arith, rest_at labels F.labels_long k g, F.labels_in (front + k) (omega arith));
    fair = λ k h a.
        let g : k < m - front = omega (arith, rest_labels_long) in
        let e = from_at cells m n i F.track_in F.cells_long front k g in
        omega (arith, rest_at discounts F.discounts_long k g, F.numbers.fair i (front + k) F.track_in (omega arith) (omega arith));
  }
    where
      rest_labels_long : length (rest labels front) ≡ m - front
      rest_labels_long = rest_length labels F.labels_long

  pub fair : (cells_i : List ℕ) → cells_i ≡ row cells m i → Fair (rest cells_i front) (rest discounts front) (rest labels front) (rest via front) from (at prices i)
  fair cells_i e = rw e fair_i

  -- the whole list after the offers, from what stands from front on
  abbrev whole : List ℕ → List ℕ → List ℕ
  whole xs ys = put_mid front (length xs - front) xs ys

  offered_i : (labels_on via-on : List ℕ) → Relaxed (row_from cells m i front) (rest discounts front) from (at prices i) i (rest labels front) (rest via front) labels_on via-on
      → Offered cells m discounts from (at prices i) i labels via (whole labels labels_on) (whole via via-on)
  offered_i labels_on via-on R = record {
    labels_long = same_len_mid front (length labels - front) labels labels_on R.labels_long ∙ F.labels_long;
    via_long = same_len_mid front (length via - front) via via-on (R.via_long ∙ (rest_length labels F.labels_long ∙ sym (rest_length via F.via_long))) ∙ F.via_long;
    steps = λ e h. ⊎_elim (λ l. let q : front + (e - front) ≡ e = omega arith in subst StepAt q (later (e - front) (omega arith))) (λ l. early e h l) (le_or_lt front e);
  }
    where
      labels_on_long : length labels_on ≡ m - front
      labels_on_long = R.labels_long ∙ rest_length labels F.labels_long

      via_on_long : length via-on ≡ m - front
      via_on_long = R.via_long ∙ rest_length labels F.labels_long

      StepAt : ℕ → Type 0
      StepAt e = Step (cell cells m i e) (at discounts e) from (at prices i) i (at labels e) (at via e) (at (whole labels labels_on) e) (at (whole via via-on) e)

      later : (k : ℕ) → k < m - front → StepAt (front + k)
      later k g = rw (
        put_in labels labels_on front (length labels - front) (omega (arith, F.front_in, F.labels_long)) k (omega (arith, labels_on_long)),
        put_in via via-on front (length via - front) (omega (arith, F.front_in, F.via_long)) k (omega (arith, via_on_long)),
        ← from_at cells m n i F.track_in F.cells_long front k g,
        ← rest_at discounts F.discounts_long k g,
        ← rest_at labels F.labels_long k g,
        ← rest_at via F.via_long k g,
      ) (R.steps k (omega (arith, rest_length labels F.labels_long)))

      -- a closed report keeps its label, which is not above from
      early : (e : ℕ) → e < m → e < front → StepAt e
      early e h l =
          let p = put_before labels labels_on front (length labels - front) (omega (arith, F.front_in, F.labels_long)) e l in
          let q = put_before via via-on front (length via - front) (omega (arith, F.front_in, F.via_long)) e l in
          rw (p, q) (record {
            less = le_refl _;
            at_most = λ a. omega (arith, F.before e l, F.numbers.fair i e F.track_in h a);
            why = inl (refl, refl);
          })

  pub offered : (cells_i : List ℕ) → cells_i ≡ row cells m i → (labels_on via-on : List ℕ) → Relaxed (rest cells_i front) (rest discounts front) from (at prices i) i (rest labels front) (rest via front) labels_on via-on
      → Offered cells m discounts from (at prices i) i labels via (whole labels labels_on) (whole via via-on)
  offered cells_i e labels_on via-on R = offered_i labels_on via-on (rw e at R)
