-- Laws of loops over a list: an answer by its place, a place by its rank among those of its kind.
use Prim.Native.Nat.{ℕ, zero, suc, ◌+◌, ◌-◌, ◌≤◌, ◌<◌}
use mathlib.Core.Path.{◌≡◌, refl, ◌∙◌}
use mathlib.Core.Bool.{Bool, true, false, cond}
use mathlib.Core.List.{List, [], ◌∷◌}
use native.Mathlib.Nat.{le_of_suc-le-suc, not-suc-le-zero}
use native.Mathlib.Omega.{arith}
use lib.ListN.{length, get_or, take}
use Rattle.laws.specs.Lists.{after_all, outs, indices_from}

-- an answer a step: the k-th is made from the k-th element and the state that it meets
pub outs_at : {B S C : Type 0} (step : B → S → S) (out : B → S → C) (bs : List B) (s : S) (k : ℕ) (b : B) (d : C) → k < length bs → get_or (outs step out bs s) k d ≡ out (get_or bs k b) (after_all step (take k bs) s)
unfolding outs after_all
outs_at step out [] s k b d h = absurd (not-suc-le-zero h)
outs_at step out (x ∷ bs) s zero b d h = refl
outs_at step out (x ∷ bs) s (suc k) b d h = outs_at step out bs (step x s) k b d (le_of_suc-le-suc h)

-- an element of the kind: its rank is how many before it are of the kind, and at that rank the list of places names it
module _ {A : Type 0} (p : A → Bool) where
  pub record Ranked (base : ℕ) (xs : List A) (k : ℕ) : Type 0 where
    pub lies : length (indices_from p base (take k xs)) < length (indices_from p base xs)
    pub names : get_or (indices_from p base xs) (length (indices_from p base (take k xs))) 0 ≡ base + k

  pub ranked : (base : ℕ) (xs : List A) (k : ℕ) (d : A) → k < length xs → p (get_or xs k d) ≡ true → Ranked base xs k
  unfolding indices_from
  ranked base [] k d h e = absurd (not-suc-le-zero h)
  ranked base (x ∷ xs) zero d h e = record { lies = rw e (omega arith); names = rw e (omega arith) }
  ranked base (x ∷ xs) (suc k) d h e = go (p x) refl (ranked (suc base) xs k d (le_of_suc-le-suc h) e)
    where
      go : (b : Bool) → p x ≡ b → Ranked (suc base) xs k → Ranked base (x ∷ xs) (suc k)
      go true t w = record { lies = rw t (omega (arith, w.lies)); names = rw t (w.names ∙ omega arith) }
      go false f w = record { lies = rw f w.lies; names = rw f (w.names ∙ omega arith) }

-- a place that a list of places names is one of the list's, and of the kind
module _ {A : Type 0} (p : A → Bool) where
  pub record Named (base : ℕ) (xs : List A) (d : A) (k : ℕ) : Type 0 where
    pub from : base ≤ k
    pub within : k < base + length xs
    pub kind : p (get_or xs (k - base) d) ≡ true

  later : {base : ℕ} {x : A} {xs : List A} {d : A} {k : ℕ} → Named (suc base) xs d k → Named base (x ∷ xs) d k
  later {base} {x} {xs} {d} {k} n =
      let e : k - base ≡ suc (k - suc base) = omega (arith, n.from) in
      record { from = omega (arith, n.from); within = omega (arith, n.within); kind = rw e n.kind }

  pub named : (base : ℕ) (xs : List A) (d : A) (i : ℕ) → i < length (indices_from p base xs) → Named base xs d (get_or (indices_from p base xs) i 0)
  unfolding indices_from
  named base [] d i h = absurd (not-suc-le-zero h)
  named base (x ∷ xs) d i h = go (p x) refl i h (named (suc base) xs d)
    where
      here : p x ≡ true → Named base (x ∷ xs) d base
      here t = let e : base - base ≡ 0 = omega arith in record { from = omega arith; within = omega arith; kind = rw e t }

      go : (b : Bool) → p x ≡ b → (i : ℕ) → i < length (cond b (base ∷ indices_from p (suc base) xs) (indices_from p (suc base) xs)) → ((i : ℕ) → i < length (indices_from p (suc base) xs) → Named (suc base) xs d (get_or (indices_from p (suc base) xs) i 0)) → Named base (x ∷ xs) d (get_or (cond b (base ∷ indices_from p (suc base) xs) (indices_from p (suc base) xs)) i 0)
      go true t zero h rest = here t
      go true t (suc i) h rest = later (rest i (le_of_suc-le-suc h))
      go false f i h rest = later (rest i h)
