-- Laws of `each`, a test of every number below n, and of `holds`, a list of tests.
use Prim.Native.Nat.{ℕ, zero, suc, ◌+◌, ◌≤◌, ◌<◌}
use mathlib.Core.Path.{◌≡◌, refl, ◌∙◌}
use mathlib.Core.Bool.{Bool, true, false, not, ◌&&◌, ◌||◌}
use mathlib.Core.List.{List, [], ◌∷◌}
use mathlib.Core.Logic.{◌⊎◌, inl, inr, ⊎_elim}
use native.Mathlib.Nat.{suc_inj, lt-suc_self, le_step, le_antisymm, eq-or-lt_of_le, le_of_suc-le-suc, not-suc-le-zero}
use native.Mathlib.Numerals.{add-one}
use native.Mathlib.Omega.{arith}
use lib.Dec.{T, leb, ltb, ltb→lt, leb-suc-suc, leb-suc-zero}
use lib.ListN.{length}
use Rattle.laws.specs.Lists.{first_index}
use Rattle.laws.specs.Tests.{each, holds, refuse}

-- ---- tests joined by and, or

pub and_both : {a b : Bool} → a ≡ true → b ≡ true → (a && b) ≡ true
and_both p q = rw (p, q)

pub and_left : (a b : Bool) → (a && b) ≡ true → a ≡ true
and_left true b e = refl
and_left false b e = e

pub and_right : (a b : Bool) → (a && b) ≡ true → b ≡ true
and_right true b e = e
and_right false b e = cc

pub and_fails : (a b : Bool) → b ≡ false → (a && b) ≡ false
and_fails true b e = e
and_fails false b e = refl

-- the firsts agree, and where they hold the seconds
pub and_same : (a a' b b' : Bool) → a ≡ a' → (a ≡ true → b ≡ b') → (a && b) ≡ (a' && b')
and_same true a' b b' e h = rw (← e) (h refl)
and_same false a' b b' e h = rw (← e)

-- a, or where a fails b
pub or_else : (a b : Bool) → (a ≡ false → b ≡ true) → (a || b) ≡ true
or_else true b h = refl
or_else false b h = h refl

pub or_second : (a b : Bool) → (a || b) ≡ true → a ≡ false → b ≡ true
or_second true b e f = cc
or_second false b e f = e

-- a test is not both
pub clash : {b : Bool} → b ≡ true → b ≡ false → ⊥
clash {b} p q = let z : ◌≡◌ {A = ℕ} 0 1 = cc in omega arith

-- ---- a loop that tests each number: it begins, a round, it is done, it is left at i

pub each_none : (f : ℕ → Bool) → each 0 f ≡ true
unfolding each
each_none f = refl

pub each_more : (f : ℕ → Bool) (i : ℕ) → each i f ≡ true → f i ≡ true → each (i + 1) f ≡ true
unfolding each
each_more f i a h = rw add-one (and_both a h)

pub each_done : (f : ℕ → Bool) (i n : ℕ) → i ≤ n → n ≤ i → each i f ≡ true → each n f ≡ true
each_done f i n p q a = rw (le_antisymm q p) a

pub each_fails : (f : ℕ → Bool) (i n : ℕ) → i < n → f i ≡ false → each n f ≡ false
unfolding each
each_fails f i zero l e = absurd (not-suc-le-zero l)
each_fails f i (suc n) l e =
    ⊎_elim (λ q. and_fails (each n f) (f n) (rw q at e))
    (λ k. rw (each_fails f i n k e))
    (eq-or-lt_of_le (le_of_suc-le-suc l))

-- what the whole says of each, and what each says of the whole
pub each_at : (f : ℕ → Bool) (n i : ℕ) → each n f ≡ true → i < n → f i ≡ true
unfolding each
each_at f zero i a l = absurd (not-suc-le-zero l)
each_at f (suc n) i a l =
    ⊎_elim (λ q. rw q (and_right (each n f) (f n) a))
    (λ k. each_at f n i (and_left (each n f) (f n) a) k)
    (eq-or-lt_of_le (le_of_suc-le-suc l))

pub each_all : (f : ℕ → Bool) (n : ℕ) → ((i : ℕ) → i < n → f i ≡ true) → each n f ≡ true
unfolding each
each_all f zero h = refl
each_all f (suc n) h = and_both (each_all f n (λ i l. h i (le_step l))) (h n (lt-suc_self n))

-- each holds, or one fails
pub each_or_one : (f : ℕ → Bool) (n : ℕ) → (each n f ≡ true) ⊎ ((i : ℕ) × ((i < n) × (f i ≡ false)))
unfolding each
each_or_one f zero = inl refl
each_or_one f (suc n) = go (f n) refl (each_or_one f n)
  where
    go : (b : Bool) → f n ≡ b → (each n f ≡ true) ⊎ ((i : ℕ) × ((i < n) × (f i ≡ false))) → ((each n f && b) ≡ true) ⊎ ((i : ℕ) × ((i < suc n) × (f i ≡ false)))
    go b e (inr (i, (l, h))) = inr (i, (le_step l, h))
    go true e (inl a) = inl (and_both a refl)
    go false e (inl a) = inr (n, (lt-suc_self n, e))

-- tests that agree below n
pub each_same : (f g : ℕ → Bool) (n : ℕ) → ((i : ℕ) → i < n → f i ≡ g i) → each n f ≡ each n g
unfolding each
each_same f g zero h = refl
each_same f g (suc n) h = rw (each_same f g n (λ i l. h i (le_step l)), h n (lt-suc_self n))

-- ---- a list of tests

-- the tests as facts
abbrev pub Each : List Bool → Type 0
Each [] = Unit {0}
Each (b ∷ bs) = (b ≡ true) × Each bs

pub holds_each : (bs : List Bool) → holds bs ≡ true → Each bs
unfolding holds
holds_each [] e = tt
holds_each (b ∷ bs) e = (and_left b (holds bs) e, holds_each bs (and_right b (holds bs) e))

pub all_hold : (bs : List Bool) → Each bs → holds bs ≡ true
unfolding holds
all_hold [] w = refl
all_hold (b ∷ bs) w = and_both w.0 (all_hold bs w.1)

-- the first that fails is past the last: they all hold; and the other way round
pub none_fails : (bs : List Bool) → first_index not bs ≡ length bs → Each bs
unfolding first_index
none_fails [] e = tt
none_fails (true ∷ bs) e = (refl, none_fails bs (suc_inj e))
none_fails (false ∷ bs) e = absurd (omega arith)

pub all_pass : (bs : List Bool) → Each bs → first_index not bs ≡ length bs
unfolding first_index
all_pass [] w = refl
all_pass (b ∷ bs) w = rw (w.0, all_pass bs w.1)

-- so a walk that stops at the first that fails finds whether all hold
pub holds_first : (bs : List Bool) → leb (length bs) (first_index not bs) ≡ holds bs
unfolding holds first_index
holds_first [] = refl
holds_first (true ∷ bs) = leb-suc-suc (length bs) (first_index not bs) ∙ holds_first bs
holds_first (false ∷ bs) = leb-suc-zero (length bs)

-- ---- a chain of refusals: no number comes of it just where each test holds

pub refuse_none : (k : ℕ) (ok : Bool) (rest : ℕ) → refuse k ok rest ≡ 0 → T (ltb 0 k) → (ok ≡ true) × (rest ≡ 0)
refuse_none k true rest e h = (refl, e)
refuse_none k false rest e h = absurd (omega (arith, ltb→lt 0 k h))

-- two chains agree where their tests do, and the rest wherever the test holds
pub refuse_same : (k : ℕ) (ok ok' : Bool) (rest rest' : ℕ) → ok ≡ ok' → (ok ≡ true → rest ≡ rest') → refuse k ok rest ≡ refuse k ok' rest'
refuse_same k true ok' rest rest' e h = rw (← e) (h refl)
refuse_same k false ok' rest rest' e h = rw (← e)
