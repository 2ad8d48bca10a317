-- A part of a list, from a up to e, read at each index, or its first n; and a list whose part is put back changed.
use Prim.Native.Nat.{ℕ, ◌+◌, ◌-◌, ◌≤◌, ◌<◌}
use mathlib.Core.Path.{◌≡◌, ap, sym, ◌∙◌}
use mathlib.Core.List.{List}
use native.Mathlib.Omega.{arith}
use borrow.Rule.Slice.PartMut.{put_mid}
use lib.ListN.{length, get_or, take, drop, length-take, length-drop, get_or-append}
use lib.Seq.{get_or-take, get_or-drop, get_or-append-add, length-take-le}

-- a list has room for what its first n entries are
pub listed_room : (xs ys : List ℕ) {n : ℕ} → n ≡ length ys → take n xs ≡ ys → n ≤ length xs
listed_room xs ys {n} c s = omega (arith, ap length s ∙ sym c, length-take n xs)

abbrev pub part : List ℕ → ℕ → ℕ → List ℕ
part xs a e = take (e - a) (drop a xs)

module _ (xs : List ℕ) (a e : ℕ) where
  pub part_length : e ≤ length xs → length (part xs a e) ≡ e - a
  part_length h = length-take-le (e - a) (drop a xs) (rw length-drop (omega arith))

  pub part_at : (k : ℕ) → k < e - a → get_or (part xs a e) k 0 ≡ get_or xs (a + k) 0
  part_at k h = get_or-take (e - a) (drop a xs) k 0 h ∙ get_or-drop a xs k 0

-- ys stands from a on, in the place of k elements of xs
module _ (xs ys : List ℕ) (a k : ℕ) (h : a ≤ length xs) where
  pub put_before : (j : ℕ) → j < a → get_or (put_mid a k xs ys) j 0 ≡ get_or xs j 0
  put_before j l = get_or-append (take a xs) _ 0 j (omega (arith, length-take-le a xs h)) ∙ get_or-take a xs j 0 l

  pub put_in : (j : ℕ) → j < length ys → get_or (put_mid a k xs ys) (a + j) 0 ≡ get_or ys j 0
  put_in j l =
      ap (λ (i : ℕ). get_or (put_mid a k xs ys) i 0) (ap (λ (i : ℕ). i + j) (sym (length-take-le a xs h)))
      ∙ get_or-append-add (take a xs) _ j 0 ∙ get_or-append ys _ 0 j l
