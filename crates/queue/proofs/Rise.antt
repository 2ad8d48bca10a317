-- A track in a pair bounds the slacks.
use Prim.Native.Nat.{ℕ, ◌+◌, ◌*◌, ◌<◌}
use mathlib.Core.Path.{◌≡◌, ap, sym, ◌∙◌}
use mathlib.Core.List.{List}
use mathlib.Core.Logic.{⊎_elim}
use native.Mathlib.Omega.{arith}
use lib.ListN.{length}
use Rattle.laws.proofs.Stores.{same_or}
use Rattle.laws.specs.Lists.{at}
use Rattle.lifting.specs.Slack.{Row, Bounded}
use Rattle.paths.specs.State.{cell, Good}
use Rattle.paths.proofs.Swap.{free_zero}
use Rattle.paths.proofs.Rows.{row, row_length, row_at, row_end}
use Rattle.queue.specs.State.{Slack}

module _ (cells : List ℕ) (m track : ℕ) (pairing owner prices discounts slack : List ℕ) (G : Good cells m (length prices) pairing owner prices discounts) (h : track < length prices)
    (K : Slack cells m track pairing owner prices slack) where
  row_long : length (row cells m track) ≡ m
  row_long = row_length cells m (length prices) track h G.shape.cells_long

  row_is : (k : ℕ) → k < m → at (row cells m track) k ≡ cell cells m track k
  row_is k g = row_at cells m (length prices) track h G.shape.cells_long k g

  pub row_slack : Row (row cells m track) (at prices track) slack
  row_slack = record {
    same = row_long ∙ sym K.slack_long;
    cells_good = λ k g. let q : k < m = omega (arith, K.slack_long) in
        rw (row_is k q) (G.shape.cells_good (track * m + k) (omega (arith, row_end cells m (length prices) track h G.shape.cells_long)));
    top = G.numbers.price_in track h;
    small = K.small;
  }

  pub bounded_row : (slack' : List ℕ) → Bounded (row cells m track) (at prices track) slack slack' → Slack cells m (track + 1) pairing owner prices slack'
  bounded_row slack' R = record {
    slack_long = R.slack_long ∙ K.slack_long;
    small = λ k g. omega (arith, R.less k (omega (arith, R.slack_long)), K.small k (omega (arith, R.slack_long)));
    room = λ i j l g p f a. let s : j < length slack = omega (arith, K.slack_long) in
        ⊎_elim
        (λ q. rw q (omega (
          arith,
          R.room j s (omega (arith, row_is j g, ap (λ (k : ℕ). cell cells m k j) q)),
          row_is j g,
          ap (λ (k : ℕ). cell cells m k j) q,
          G.numbers.fair track j h g (omega (arith, ap (λ (k : ℕ). cell cells m k j) q)),
          free_zero G j g f,
        )))
        (λ d. omega (arith, K.room i j (omega arith) g p f a, R.less j s)) (same_or i track);
  }
