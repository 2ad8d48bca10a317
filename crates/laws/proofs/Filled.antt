-- An answer list while a loop fills it: the first n are written, rest is to come, whole is all of it, and what lies past n is as it was.
use Prim.Native.Nat.{ℕ, ◌+◌, ◌≤◌, ◌<◌}
use mathlib.Core.Path.{◌≡◌, refl, ap, sym, ◌∙◌}
use mathlib.Core.List.{List, [], ◌∷◌, ◌++◌, map, append_assoc, append-nil}
use native.Mathlib.Omega.{arith}
use native.Mathlib.Numerals.{add-one}
use lib.ListN.{length, get_or, take, drop, set, length-set, length-drop, length-append, take-append-drop, drop_of_length-le}
use lib.Seq.{take-suc-set, drop-set-lt, length-take-le, drop-drop, drop-cons, take_at, drop_at}

pub record Filled {A : Type 0} (whole out out₀ : List A) (n : ℕ) (rest : List A) : Type 0 where
  pub same : length out ≡ length out₀
  pub room : n ≤ length out
  pub done : take n out ++ rest ≡ whole
  pub kept : drop n out ≡ drop n out₀

module _ {A : Type 0} where
  pub filled_none : (whole out : List A) → Filled whole out out 0 whole
  filled_none whole out = record { same = refl; room = omega arith; done = refl; kept = refl }

  pub filled_more : {whole out out₀ rest : List A} {n : ℕ} {v : A} → Filled whole out out₀ n (v ∷ rest) → n < length out → Filled whole (set out n v) out₀ (n + 1) rest
  filled_more {whole} {out} {out₀} {rest} {n} {v} w h = record {
    same = length-set out n v ∙ w.same;
    room = rw (length-set out n v) (omega arith);
    done = rw (add-one n, take-suc-set out n v h, append_assoc (take n out) (v ∷ []) rest) w.done;
    kept = drop-set-lt (n + 1) out n v (omega arith) ∙ sym (drop-drop 1 n out) ∙ ap (drop 1) w.kept ∙ drop-drop 1 n out₀;
  }

  pub filled_end : {whole out out₀ : List A} {n : ℕ} → Filled whole out out₀ n [] → out ≡ whole ++ drop n out₀
  filled_end {whole} {out} {out₀} {n} w = sym (take-append-drop n out) ∙ rw (w.kept, ← w.done, append-nil (take n out))

  pub filled_length : {whole out out₀ rest : List A} {n : ℕ} → Filled whole out out₀ n rest → n + length rest ≡ length whole
  filled_length {whole} {out} {out₀} {rest} {n} w =
      rw (← w.done, length-append (take n out) rest, length-take-le n out w.room)

-- a list filled with what f gives of each element of another: the first i are
pub record MapFilled {A B : Type 0} (f : A → B) (xs : List A) (out out₀ : List B) (i : ℕ) : Type 0 where
  pub upto : i ≤ length xs
  pub so : Filled (map f xs) out out₀ i (map f (drop i xs))

module _ {A B : Type 0} (f : A → B) where
  pub map_filled_none : (xs : List A) (out : List B) → MapFilled f xs out out 0
  map_filled_none xs out = record { upto = omega arith; so = filled_none _ out }

  pub map_filled_more : {xs : List A} {out out₀ : List B} {i : ℕ} {v : B} (d : A) → MapFilled f xs out out₀ i → i < length xs → length xs ≤ length out₀ → v ≡ f (get_or xs i d) → MapFilled f xs (set out i v) out₀ (i + 1)
  map_filled_more {xs} {out} {out₀} {i} {v} d w h l e =
      let next : map f (drop i xs) ≡ f (get_or xs i d) ∷ map f (drop (i + 1) xs) = rw (add-one i, drop-cons xs i d h) in
      record { upto = omega arith; so = rw e (filled_more (rw next at w.so) (omega (arith, w.so.same))) }

  pub map_filled_end : {xs : List A} {out out₀ : List B} {i : ℕ} → MapFilled f xs out out₀ i → length xs ≤ i → out ≡ map f xs ++ drop (length xs) out₀
  map_filled_end {xs} {out} {out₀} {i} w h =
      let e : length xs ≡ i = omega (arith, w.upto) in
      rw e (filled_end (rw (drop_of_length-le xs h) at w.so))

-- a whole chunk is written behind the n that are written
module _ {A : Type 0} where
  pub filled_chunk : {whole out out₀ : List A} {n : ℕ} (chunk rest : List A) → Filled whole out out₀ n (chunk ++ rest) → n + length chunk ≤ length out → Filled whole (take n out ++ (chunk ++ drop (n + length chunk) out)) out₀ (n + length chunk) rest
  filled_chunk {whole} {out} {out₀} {n} chunk rest w h =
      let head : length (take n out ++ chunk) ≡ n + length chunk = rw (length-append, length-take-le n out w.room) in
      let split : take n out ++ (chunk ++ drop (n + length chunk) out) ≡ (take n out ++ chunk) ++ drop (n + length chunk) out = sym (append_assoc (take n out) chunk _) in
      record {
        same = rw (split, length-append, head, length-drop) (omega (arith, w.same));
        room = rw (split, length-append, head) (omega arith);
        done = rw (split, take_at (take n out ++ chunk) _ (n + length chunk) head, append_assoc (take n out) chunk rest) w.done;
        kept = rw (split, drop_at (take n out ++ chunk) _ (n + length chunk) head) (sym (drop-drop (length chunk) n out) ∙ ap (drop (length chunk)) w.kept ∙ drop-drop (length chunk) n out₀);
      }

-- a loop that copies xs behind the n that are written: the first i are
pub record Copied {A : Type 0} (xs whole out out₀ : List A) (n i : ℕ) : Type 0 where
  pub upto : i ≤ length xs
  pub so : Filled whole out out₀ n (drop i xs)

module _ {A : Type 0} where
  pub copied_none : (xs out : List A) (n : ℕ) → n ≤ length out → Copied xs (take n out ++ xs) out out n 0
  copied_none xs out n h = record { upto = omega arith; so = record { same = refl; room = h; done = refl; kept = refl } }

  pub copied_more : {xs whole out out₀ : List A} {n i : ℕ} {v : A} (d : A) → Copied xs whole out out₀ n i → n < length out → i < length xs → v ≡ get_or xs i d → Copied xs whole (set out n v) out₀ (n + 1) (i + 1)
  copied_more {xs} {whole} {out} {out₀} {n} {i} {v} d w h l e =
      let next : drop i xs ≡ v ∷ drop (i + 1) xs = rw (e, add-one i, drop-cons xs i d l) in
      record { upto = omega arith; so = filled_more (rw next at w.so) h }

  pub copied_end : {xs whole out out₀ : List A} {n i : ℕ} → Copied xs whole out out₀ n i → length xs ≤ i → out ≡ whole ++ drop n out₀
  copied_end {xs} {whole} {out} {out₀} {n} {i} w h = filled_end (rw (drop_of_length-le xs h) at w.so)
