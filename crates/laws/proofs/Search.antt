-- A loop that looks for the first place of a kind, or lists all its places.
use Prim.Native.Nat.{ℕ, zero, suc, ◌+◌, ◌≤◌, ◌<◌}
use mathlib.Core.Path.{◌≡◌, refl, sym, ap, ◌∙◌}
use mathlib.Core.List.{List, [], ◌∷◌, ◌++◌, append_assoc, append-nil}
use mathlib.Core.Bool.{Bool, true, false, not, cond, ◌||◌}
use native.Mathlib.Omega.{arith}
use native.Mathlib.Nat.{zero-add, le_of_suc-le-suc, not-suc-le-zero}
use native.Mathlib.Numerals.{add-one}
use borrow.Author.Tests.{lt-leb, le-leb, ltb-true, ltb-false}
use lib.Dec.{leb, ltb, leb-suc-suc, leb-suc-zero}
use lib.ListN.{length, get_or, take, drop, set, length-set, drop_of_length-le}
use lib.Seq.{drop-cons, length-take-le, take-suc-set, take-set-le}
use Rattle.std.specs.List.{position, list_any}
use Rattle.std.specs.Prelude.{Some, None, is_some, is_none}
use Rattle.std.proofs.lemmas.List.Recursion.{is_position_or_len}
use Rattle.laws.specs.Lists.{first_index, indices_from, count, found_below}

-- the first i elements are passed, none of the kind
pub record Passed {A : Type 0} (p : A → Bool) (xs : List A) (i : ℕ) : Type 0 where
  pub upto : i ≤ length xs
  pub ahead : i + first_index p (drop i xs) ≡ first_index p xs

module _ {A : Type 0} (p : A → Bool) where
  pub passed_none : (xs : List A) → Passed p xs 0
  passed_none xs = record { upto = omega arith; ahead = zero-add _ }

  pub passed_more : {xs : List A} {i : ℕ} (d : A) → Passed p xs i → i < length xs → p (get_or xs i d) ≡ false → Passed p xs (i + 1)
  unfolding first_index
  passed_more {xs} {i} d w h e = record {
    upto = omega arith;
    ahead = sym skip ∙ w.ahead;
  }
    where
      skip : i + first_index p (drop i xs) ≡ (i + 1) + first_index p (drop (i + 1) xs)
      skip = rw (add-one i, drop-cons xs i d h, e) (omega arith)

  -- it stops at i
  pub passed_stop : {xs : List A} {i : ℕ} (d : A) → Passed p xs i → i < length xs → p (get_or xs i d) ≡ true → i ≡ first_index p xs
  unfolding first_index
  passed_stop {xs} {i} d w h e = sym stop ∙ w.ahead
    where
      stop : i + first_index p (drop i xs) ≡ i
      stop = rw (drop-cons xs i d h, e) (omega arith)

  -- it runs out
  pub passed_end : {xs : List A} {i : ℕ} → Passed p xs i → length xs ≤ i → i ≡ first_index p xs
  unfolding first_index
  passed_end {xs} {i} w h = sym out ∙ w.ahead
    where
      out : i + first_index p (drop i xs) ≡ i
      out = rw (drop_of_length-le xs h) (omega arith)

  -- what the index says
  pub first_upto : (xs : List A) → first_index p xs ≤ length xs
  unfolding first_index
  first_upto [] = omega arith
  first_upto (x ∷ xs) = go (p x) (first_upto xs)
    where
      go : (b : Bool) → first_index p xs ≤ length xs → cond b 0 (suc (first_index p xs)) ≤ suc (length xs)
      go true h = omega arith
      go false h = omega arith

  pub first_before : (xs : List A) (d : A) (k : ℕ) → k < first_index p xs → p (get_or xs k d) ≡ false
  unfolding first_index
  first_before [] d k h = absurd (not-suc-le-zero h)
  first_before (x ∷ xs) d k h = go (p x) refl k h (first_before xs d)
    where
      go : (b : Bool) → p x ≡ b → (k : ℕ) → k < cond b 0 (suc (first_index p xs)) → ((k : ℕ) → k < first_index p xs → p (get_or xs k d) ≡ false) → p (get_or (x ∷ xs) k d) ≡ false
      go true e k h rest = absurd (not-suc-le-zero h)
      go false e zero h rest = e
      go false e (suc k) h rest = rest k (le_of_suc-le-suc h)

  pub first_found : (xs : List A) (d : A) → first_index p xs < length xs → p (get_or xs (first_index p xs) d) ≡ true
  unfolding first_index
  first_found [] d h = absurd (not-suc-le-zero h)
  first_found (x ∷ xs) d h = go (p x) refl h (first_found xs d)
    where
      go : (b : Bool) → p x ≡ b → cond b 0 (suc (first_index p xs)) < suc (length xs) → (first_index p xs < length xs → p (get_or xs (first_index p xs) d) ≡ true) → p (get_or (x ∷ xs) (cond b 0 (suc (first_index p xs))) d) ≡ true
      go true e h rest = e
      go false e h rest = rest (le_of_suc-le-suc h)

  -- none is of the kind: the index is the length
  pub first_nowhere : (xs : List A) (d : A) → ((k : ℕ) → k < length xs → p (get_or xs k d) ≡ false) → first_index p xs ≡ length xs
  unfolding first_index
  first_nowhere [] d h = refl
  first_nowhere (x ∷ xs) d h = rw (h 0 (omega arith), first_nowhere xs d (λ k l. h (suc k) (omega arith)))

  -- all places of the kind
  pub indices_skip : (xs : List A) (i : ℕ) (d : A) → i < length xs → p (get_or xs i d) ≡ false → indices_from p i (drop i xs) ≡ indices_from p (i + 1) (drop (i + 1) xs)
  unfolding indices_from
  indices_skip xs i d h e = rw (add-one i, drop-cons xs i d h, e)

  pub indices_hit : (xs : List A) (i : ℕ) (d : A) → i < length xs → p (get_or xs i d) ≡ true → indices_from p i (drop i xs) ≡ i ∷ indices_from p (i + 1) (drop (i + 1) xs)
  unfolding indices_from
  indices_hit xs i d h e = rw (add-one i, drop-cons xs i d h, e)

  pub indices_out : (xs : List A) (i : ℕ) → length xs ≤ i → indices_from p i (drop i xs) ≡ []
  unfolding indices_from
  indices_out xs i h = rw (drop_of_length-le xs h)

-- ---- the index as an answer

pub position_found : {A : Type 0} (p : A → Bool) (xs : List A) → position p xs ≡ found_below (first_index p xs) (length xs)
unfolding found_below first_index
position_found p xs = rw (is_position_or_len (first_index p) p refl (λ x ys. ap (cond (p x) 0) (omega arith)) xs)

pub some_found : (i n : ℕ) → is_some (found_below i n) ≡ ltb i n
unfolding found_below
some_found i n = go (ltb i n)
  where
    go : (b : Bool) → is_some (cond b (Some i) None) ≡ b
    go true = refl
    go false = refl

pub none_found : (i n : ℕ) → is_none (found_below i n) ≡ leb n i
none_found i n = rw (some_found i n) (go (ltb i n) refl)
  where
    go : (b : Bool) → ltb i n ≡ b → not b ≡ leb n i
    go true e = sym (lt-leb n i (ltb-true i n e))
    go false e = sym (le-leb n i (ltb-false i n e))

-- nothing of the kind is found
pub none_any : {A : Type 0} (p : A → Bool) (xs : List A) → leb (length xs) (first_index p xs) ≡ not (list_any p xs)
unfolding first_index
none_any p [] = refl
none_any p (x ∷ xs) = go (p x) (none_any p xs)
  where
    go : (b : Bool) → leb (length xs) (first_index p xs) ≡ not (list_any p xs) → leb (suc (length xs)) (cond b 0 (suc (first_index p xs))) ≡ not (b || list_any p xs)
    go true e = leb-suc-zero (length xs)
    go false e = leb-suc-suc (length xs) (first_index p xs) ∙ e

-- places of the kind gathered into a list: the first n are found, and i are looked at
pub record Gathered {A : Type 0} (p : A → Bool) (xs : List A) (out : List ℕ) (n i : ℕ) : Type 0 where
  pub upto : i ≤ length xs
  pub room : n ≤ length out
  pub found : take n out ++ indices_from p i (drop i xs) ≡ indices_from p 0 xs

module _ {A : Type 0} (p : A → Bool) where
  pub gathered_none : (xs : List A) (out : List ℕ) → Gathered p xs out 0 0
  gathered_none xs out = record { upto = omega arith; room = omega arith; found = refl }

  -- element i is looked at: its place is written at n, and counts where it is of the kind
  pub gathered_more : {xs : List A} {out : List ℕ} {n i k : ℕ} (d : A) → Gathered p xs out n i → i < length xs → n < length out → k ≡ cond (p (get_or xs i d)) 1 0 → Gathered p xs (set out n i) (n + k) (i + 1)
  gathered_more {xs} {out} {n} {i} {k} d g h l e = go (p (get_or xs i d)) refl
    where
      go : (b : Bool) → p (get_or xs i d) ≡ b → Gathered p xs (set out n i) (n + k) (i + 1)
      go true t =
          let one : k ≡ 1 = rw t at e in
          record {
            upto = omega arith;
            room = rw (length-set out n i) (omega arith);
            found = rw (one, add-one n, take-suc-set out n i l, append_assoc (take n out) (i ∷ []) (indices_from p (i + 1) (drop (i + 1) xs)))
                (rw (indices_hit p xs i d h t) at g.found);
          }
      go false f =
          let none : k ≡ 0 = rw f at e in
          let same : n + k ≡ n = omega arith in
          record {
            upto = omega arith;
            room = rw (length-set out n i) (omega arith);
            found = rw (same, take-set-le n out n i (omega arith)) (rw (indices_skip p xs i d h f) at g.found);
          }

  pub gathered_end : {xs : List A} {out : List ℕ} {n i : ℕ} → Gathered p xs out n i → length xs ≤ i → (n ≡ count p xs) × (take n out ≡ indices_from p 0 xs)
  gathered_end {xs} {out} {n} {i} g h =
      let all : take n out ++ [] ≡ indices_from p 0 xs = rw (indices_out p xs i h) at g.found in
      let e : take n out ≡ indices_from p 0 xs = sym (append-nil (take n out)) ∙ all in
      (rw (← e) (sym (length-take-le n out g.room)), e)

-- places of the kind counted: n are found, and i are looked at
pub record Counted {A : Type 0} (p : A → Bool) (xs : List A) (n i : ℕ) : Type 0 where
  pub upto : i ≤ length xs
  pub few : n ≤ i
  pub ahead : n + length (indices_from p i (drop i xs)) ≡ count p xs

module _ {A : Type 0} (p : A → Bool) where
  pub counted_none : (xs : List A) → Counted p xs 0 0
  counted_none xs = record { upto = omega arith; few = omega arith; ahead = zero-add _ }

  pub counted_more : {xs : List A} {n i k : ℕ} (d : A) → Counted p xs n i → i < length xs → k ≡ cond (p (get_or xs i d)) 1 0 → Counted p xs (n + k) (i + 1)
  counted_more {xs} {n} {i} {k} d w h e = go (p (get_or xs i d)) refl
    where
      go : (b : Bool) → p (get_or xs i d) ≡ b → Counted p xs (n + k) (i + 1)
      go true t =
          let one : k ≡ 1 = rw t at e in
          record { upto = omega arith; few = omega (arith, w.few); ahead = omega (arith, rw (indices_hit p xs i d h t) at w.ahead) }
      go false f =
          let none : k ≡ 0 = rw f at e in
          record { upto = omega arith; few = omega (arith, w.few); ahead = omega (arith, rw (indices_skip p xs i d h f) at w.ahead) }

  pub counted_end : {xs : List A} {n i : ℕ} → Counted p xs n i → length xs ≤ i → n ≡ count p xs
  counted_end {xs} {n} {i} w h = omega (arith, rw (indices_out p xs i h) at w.ahead)
