-- The old filter's steps.
use Prim.Native.Nat.{ℕ, zero, suc, ◌+◌, ◌-◌, ◌*◌, ◌≤◌, ◌<◌}
use mathlib.Core.Path.{◌≡◌, refl, ap, ◌∙◌}
use mathlib.Core.Bool.{Bool, true, false}
use mathlib.Core.List.{List, [], ◌∷◌}
use native.Mathlib.Nat.{le_of_suc-le-suc, not-suc-le-zero}
use native.Mathlib.Omega.{arith}
use borrow.Author.Tests.{le-leb, lt-leb}
use lib.ListN.{length, get_or, take, drop}
use Rattle.matching.specs.Pairing.{none}
use Rattle.glider.specs.Nearest.{score_in, nearer_of, row_at}

-- below a list's end the default does not matter
module _ {A : Type 0} where
  pub same_entry : (xs : List A) (i : ℕ) (d e : A) → i < length xs → get_or xs i d ≡ get_or xs i e
  same_entry [] i d e h = absurd (not-suc-le-zero h)
  same_entry (x ∷ xs) zero d e h = refl
  same_entry (x ∷ xs) (suc i) d e h = same_entry xs i d e (le_of_suc-le-suc h)

-- ---- report j beside the nearest so far

module _ (row : List ℕ) (taken : List Bool) (j nearest : ℕ) (h : j < length row) (m : length taken ≡ length row) where
  mark : (b : Bool) → get_or taken j false ≡ b → get_or taken j true ≡ b
  mark b e = same_entry taken j true false (omega arith) ∙ e

  score : score_in row j ≡ get_or row j 0
  score = same_entry row j none 0 h

  pub taken_stays : get_or taken j false ≡ true → nearest ≡ nearer_of row taken j nearest
  unfolding nearer_of
  taken_stays e = rw (mark true e)

  pub farther_stays : get_or taken j false ≡ false → score_in row nearest ≤ get_or row j 0 → nearest ≡ nearer_of row taken j nearest
  unfolding nearer_of
  farther_stays e l = rw (mark false e, score, le-leb (score_in row nearest) (get_or row j 0) l)

  pub nearer_moves : get_or taken j false ≡ false → get_or row j 0 < score_in row nearest → j ≡ nearer_of row taken j nearest
  unfolding nearer_of
  nearer_moves e l = rw (mark false e, score, lt-leb (score_in row nearest) (get_or row j 0) l)

-- ---- a track's row

module _ (m i : ℕ) (cells : List ℕ) where
  width : i * m + m - i * m ≡ m
  width = omega arith

  pub part_is_row : take (i * m + m - i * m) (drop (i * m) cells) ≡ row_at m cells i
  part_is_row = ap (λ (k : ℕ). take k (drop (i * m) cells)) width
