-- A list while a loop maps it in place: the first i are mapped.
use Prim.Native.Nat.{ℕ, zero, suc, ◌+◌, ◌≤◌, ◌<◌}
use mathlib.Core.Path.{◌≡◌, refl, ap, ◌∙◌}
use mathlib.Core.List.{List, [], ◌∷◌, map}
use native.Mathlib.Omega.{arith}
use native.Mathlib.Nat.{le_of_suc-le-suc, not-suc-le-zero}
use native.Mathlib.Numerals.{add-one}
use lib.ListN.{length, get_or, set, length-set}

-- the first i mapped
module _ {A : Type 0} (f : A → A) where
  unfoldable pub map_first : ℕ → List A → List A
  map_first zero xs = xs
  map_first (suc i) [] = []
  map_first (suc i) (x ∷ xs) = f x ∷ map_first i xs

  all_mapped : (xs : List A) (i : ℕ) → length xs ≤ i → map_first i xs ≡ map f xs
  unfolding map_first
  all_mapped [] zero h = refl
  all_mapped [] (suc i) h = refl
  all_mapped (x ∷ xs) zero h = absurd (not-suc-le-zero h)
  all_mapped (x ∷ xs) (suc i) h = ap (λ (l : List A). f x ∷ l) (all_mapped xs i (le_of_suc-le-suc h))

  not_yet_mapped : (xs : List A) (i : ℕ) (d : A) → get_or (map_first i xs) i d ≡ get_or xs i d
  unfolding map_first
  not_yet_mapped xs zero d = refl
  not_yet_mapped [] (suc i) d = refl
  not_yet_mapped (x ∷ xs) (suc i) d = not_yet_mapped xs i d

  one_mapped : (xs : List A) (i : ℕ) (d : A) → i < length xs → set (map_first i xs) i (f (get_or xs i d)) ≡ map_first (suc i) xs
  unfolding map_first
  one_mapped [] i d h = absurd (not-suc-le-zero h)
  one_mapped (x ∷ xs) zero d h = refl
  one_mapped (x ∷ xs) (suc i) d h = ap (λ (l : List A). f x ∷ l) (one_mapped xs i d (le_of_suc-le-suc h))

pub record Mapped {A : Type 0} (f : A → A) (now was : List A) (i : ℕ) : Type 0 where
  pub same : length now ≡ length was
  pub upto : i ≤ length now
  pub part : now ≡ map_first f i was

module _ {A : Type 0} (f : A → A) where
  pub mapped_none : (was : List A) → Mapped f was was 0
  unfolding map_first
  mapped_none was = record { same = refl; upto = omega arith; part = refl }

  pub mapped_more : {now was : List A} {i : ℕ} {v : A} (d : A) → Mapped f now was i → i < length now → v ≡ f (get_or now i d) → Mapped f (set now i v) was (i + 1)
  mapped_more {now} {was} {i} {v} d m h e = record {
    same = length-set now i v ∙ m.same;
    upto = rw (length-set now i v) (omega arith);
    part = let l : i < length was = omega (arith, m.same) in
        rw (e, m.part, not_yet_mapped f was i d, add-one i) (one_mapped f was i d l);
  }

  pub mapped_end : {now was : List A} {i : ℕ} → Mapped f now was i → length now ≤ i → now ≡ map f was
  mapped_end {now} {was} {i} m h = m.part ∙ all_mapped f was i (omega arith)

-- an entry of a mapped list
pub map_at : {A B : Type 0} (f : A → B) (xs : List A) (k : ℕ) (d : A) (e : B) → k < length xs → get_or (map f xs) k e ≡ f (get_or xs k d)
map_at f [] k d e h = absurd (not-suc-le-zero h)
map_at f (x ∷ xs) zero d e h = refl
map_at f (x ∷ xs) (suc k) d e h = map_at f xs k d e (le_of_suc-le-suc h)
