-- What a whole list gives where it is gone through from its front, in the words of `each` and `sum`.
use Prim.Native.Nat.{ℕ, zero, suc, ◌+◌, ◌*◌, ◌≤◌, ◌<◌}
use mathlib.Core.Path.{◌≡◌, refl, sym, ap, ◌∙◌}
use mathlib.Core.Bool.{Bool, true, false, not, ◌&&◌, ◌||◌, and-true}
use mathlib.Core.List.{List, [], ◌∷◌}
use native.Mathlib.Omega.{arith}
use lib.ListN.{length, take, drop}
use lib.Dec.{eqb, leb}
use Rattle.std.specs.List.{list_all, list_any, fold, zip, sum_by}
use Rattle.std.proofs.lemmas.List.{get_or-take, get_or-drop, length-drop, length-take-le}
use Rattle.laws.specs.Sums.{sum}
use Rattle.laws.specs.Tests.{each}
use Rattle.laws.specs.Lists.{at}
use Rattle.laws.proofs.Tests.{each_none, each_same}
use Rattle.laws.proofs.Sums.{sum_none}
use Rattle.matching.specs.Pairing.{left_out}
use Rattle.matching.specs.Answer.{cell_ok, cells_ok, pair_ok, numbers_ok}

and_assoc : (a b c : Bool) → ((a && b) && c) ≡ (a && (b && c))
and_assoc true b c = refl
and_assoc false b c = refl

-- the first number, and the others
each_front : (f : ℕ → Bool) (n : ℕ) → each (suc n) f ≡ (f 0 && each n (λ i. f (suc i)))
unfolding each
each_front f zero = go (f 0)
  where
    go : (b : Bool) → (true && b) ≡ (b && true)
    go true = refl
    go false = refl
each_front f (suc n) = rw (each_front f n) (and_assoc (f 0) _ _)

sum_front : (f : ℕ → ℕ) (n : ℕ) → sum (suc n) f ≡ f 0 + sum n (λ i. f (suc i))
unfolding sum
sum_front f zero = omega arith
sum_front f (suc n) = omega (arith, sum_front f n)

-- `all`, and a fold that tests each item, answer whether each one passes
pub all_each : (p : ℕ → Bool) (xs : List ℕ) → list_all p xs ≡ each (length xs) (λ i. p (at xs i))
all_each p [] = sym (each_none _)
all_each p (x ∷ xs) = rw (all_each p xs) (sym (each_front (λ i. p (at (x ∷ xs) i)) (length xs)))

fold_all : {X : Type 0} (p : X → Bool) (b : Bool) (xs : List X) → fold (λ ok x. ok && p x) b xs ≡ (b && list_all p xs)
fold_all p b [] = sym (and-true b)
fold_all p b (x ∷ xs) = fold_all p (b && p x) xs ∙ and_assoc b (p x) _

pub all_folds : {X : Type 0} (p : X → Bool) (xs : List X) → list_all p xs ≡ fold (λ ok x. ok && p x) true xs
all_folds p xs = sym (fold_all p true xs)

pub fold_each : (p : ℕ → Bool) (xs : List ℕ) → fold (λ ok x. ok && p x) true xs ≡ each (length xs) (λ i. p (at xs i))
fold_each p xs = fold_all p true xs ∙ all_each p xs

-- the same of two lists side by side
pairs_from : (p : ℕ → ℕ → Bool) (b : Bool) (xs ys : List ℕ) → length xs ≡ length ys → fold (λ ok z. ok && p z.0 z.1) b (zip xs ys) ≡ (b && each (length xs) (λ i. p (at xs i) (at ys i)))
pairs_from p b [] ys e = sym (rw (each_none (λ i. p (at [] i) (at ys i))) (and-true b))
pairs_from p b (x ∷ xs) [] e = absurd (omega (arith, e))
pairs_from p b (x ∷ xs) (y ∷ ys) e =
    pairs_from p (b && p x y) xs ys (omega (arith, e)) ∙ and_assoc b (p x y) _ ∙ rw (each_front (λ i. p (at (x ∷ xs) i) (at (y ∷ ys) i)) (length xs)) refl

pub pairs_each : (p : ℕ → ℕ → Bool) (xs ys : List ℕ) → length xs ≡ length ys → fold (λ ok z. ok && p z.0 z.1) true (zip xs ys) ≡ each (length xs) (λ i. p (at xs i) (at ys i))
pairs_each p xs ys e = pairs_from p true xs ys e

-- a sum over a list
sum_from : (a : ℕ) (xs : List ℕ) → fold (λ t x. t + x) a xs ≡ a + sum (length xs) (at xs)
sum_from a [] = omega (arith, sum_none (at []))
sum_from a (x ∷ xs) = omega (arith, sum_from (a + x) xs, sum_front (at (x ∷ xs)) (length xs))

pub list_sum : (xs : List ℕ) → sum_by (λ x. x) xs ≡ sum (length xs) (at xs)
list_sum xs = omega (arith, sum_from 0 xs)

-- a value that none of the first has
pub none_each : (x i : ℕ) (xs : List ℕ) → i ≤ length xs → not (list_any (λ y. eqb y x) (take i xs)) ≡ each i (λ k. not (eqb (at xs k) x))
none_each x zero xs l = sym (each_none _)
none_each x (suc i) [] l = absurd (omega arith)
none_each x (suc i) (y ∷ ys) l = go (eqb y x) _ ∙ rw (none_each x i ys (omega arith)) (sym (each_front (λ k. not (eqb (at (y ∷ ys) k) x)) i))
  where
    go : (a b : Bool) → not (a || b) ≡ (not a && not b)
    go true b = refl
    go false b = refl

-- row i of a sheet of m columns
pub row_at : (m i j : ℕ) (cells : List ℕ) → j < m → at (take m (drop (i * m) cells)) j ≡ at cells (i * m + j)
row_at m i j cells l = get_or-take m (drop (i * m) cells) j 0 l ∙ get_or-drop (i * m) cells j 0

-- the pairs of row i, by the row and by the sheet
pub row_tested : (m i price : ℕ) (row cells discounts : List ℕ) (r : Bool) → row ≡ take m (drop (i * m) cells) → i * m + m ≤ length cells → length discounts ≡ m → r ≡ fold (λ ok z. ok && pair_ok price z.0 z.1) true (zip row discounts) → r ≡ each m (λ j. pair_ok price (at cells (i * m + j)) (at discounts j))
row_tested m i price row cells discounts r e w l h =
    let k : length row ≡ m = rw e (length-take-le m (drop (i * m) cells) (omega (arith, length-drop (i * m) cells))) in
    h ∙ pairs_each (pair_ok price) row discounts (k ∙ sym l) ∙ rw (k, e) (each_same _ _ m (λ j k. ap (λ x. pair_ok price x (at discounts j)) (row_at m i j cells k)))

pub numbers_tested : (n : ℕ) (xs : List ℕ) (r : Bool) → length xs ≡ n → r ≡ list_all (λ x. leb x left_out) xs → r ≡ numbers_ok n (at xs)
unfolding numbers_ok
numbers_tested n xs r l h = h ∙ all_each (λ x. leb x left_out) xs ∙ rw l refl

-- the test of a list that is cut short
pub take_cells : (n m : ℕ) (cells : List ℕ) (r : Bool) → n * m ≤ length cells → r ≡ cells_ok (length (take (n * m) cells)) (take (n * m) cells) → r ≡ cells_ok (n * m) cells
unfolding cells_ok
take_cells n m cells r l h = h ∙ rw (length-take-le (n * m) cells l) (each_same _ _ (n * m) (λ k t. ap cell_ok (get_or-take (n * m) cells k 0 t)))
