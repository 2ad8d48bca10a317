-- A loop that hands a state from element to element, and may answer at each.
use Prim.Native.Nat.{ℕ, suc, ◌+◌, ◌≤◌, ◌<◌}
use mathlib.Core.Path.{◌≡◌, refl, ap, sym, ◌∙◌}
use mathlib.Core.List.{List, [], ◌∷◌, ◌++◌}
use native.Mathlib.Omega.{arith}
use native.Mathlib.Numerals.{add-one}
use lib.ListN.{length, get_or, drop, set, drop_of_length-le}
use lib.Seq.{drop-cons}
use Rattle.laws.specs.Lists.{after_all, outs}
use Rattle.laws.proofs.Filled.{Filled, filled_none, filled_more, filled_end}

-- k elements are taken in
pub record Stepped {B S : Type 0} (step : B → S → S) (bs : List B) (s₀ s : S) (k : ℕ) : Type 0 where
  pub upto : k ≤ length bs
  pub ahead : after_all step (drop k bs) s ≡ after_all step bs s₀

module _ {B S : Type 0} (step : B → S → S) where
  pub stepped_none : (bs : List B) (s₀ : S) → Stepped step bs s₀ s₀ 0
  stepped_none bs s₀ = record { upto = omega arith; ahead = refl }

  pub stepped_more : {bs : List B} {s₀ s s' : S} {k : ℕ} (d : B) → Stepped step bs s₀ s k → k < length bs → s' ≡ step (get_or bs k d) s → Stepped step bs s₀ s' (k + 1)
  unfolding after_all
  stepped_more {bs} {s₀} {s} {s'} {k} d w h e = record { upto = omega arith; ahead = next ∙ w.ahead }
    where
      next : after_all step (drop (k + 1) bs) s' ≡ after_all step (drop k bs) s
      next = rw (e, add-one k, drop-cons bs k d h)

  pub stepped_end : {bs : List B} {s₀ s : S} {k : ℕ} → Stepped step bs s₀ s k → length bs ≤ k → s ≡ after_all step bs s₀
  unfolding after_all
  stepped_end {bs} {s₀} {s} {k} w h = sym out ∙ w.ahead
    where
      out : after_all step (drop k bs) s ≡ s
      out = rw (drop_of_length-le bs h)

-- an answer list of such a loop
pub record Answered {B S C : Type 0} (step : B → S → S) (out : B → S → C) (bs : List B) (s₀ s : S) (o o₀ : List C) (k : ℕ) : Type 0 where
  pub so : Filled (outs step out bs s₀) o o₀ k (outs step out (drop k bs) s)

module _ {B S C : Type 0} (step : B → S → S) (out : B → S → C) where
  pub length_outs : (bs : List B) (s : S) → length (outs step out bs s) ≡ length bs
  unfolding outs
  length_outs [] s = refl
  length_outs (b ∷ bs) s = ap suc (length_outs bs (step b s))

  outs_next : (bs : List B) (k : ℕ) (d : B) (s : S) → k < length bs → outs step out (drop k bs) s ≡ out (get_or bs k d) s ∷ outs step out (drop (k + 1) bs) (step (get_or bs k d) s)
  unfolding outs
  outs_next bs k d s h = rw (add-one k, drop-cons bs k d h)

  outs_none : (bs : List B) (k : ℕ) (s : S) → length bs ≤ k → outs step out (drop k bs) s ≡ []
  unfolding outs
  outs_none bs k s h = rw (drop_of_length-le bs h)

  pub answered_none : (bs : List B) (s₀ : S) (o : List C) → Answered step out bs s₀ s₀ o o 0
  answered_none bs s₀ o = record { so = filled_none _ o }

  pub answered_more : {bs : List B} {s₀ s s' : S} {o o₀ : List C} {k : ℕ} {v : C} (d : B) → Answered step out bs s₀ s o o₀ k → k < length bs → length bs ≤ length o₀ → s' ≡ step (get_or bs k d) s → v ≡ out (get_or bs k d) s → Answered step out bs s₀ s' (set o k v) o₀ (k + 1)
  answered_more {bs} {s₀} {s} {s'} {o} {o₀} {k} {v} d w h l e f =
      record { so = rw (e, f) (filled_more (rw (outs_next bs k d s h) at w.so) (omega (arith, w.so.same))) }

  pub answered_end : {bs : List B} {s₀ s : S} {o o₀ : List C} {k : ℕ} → Answered step out bs s₀ s o o₀ k → length bs ≤ k → k ≤ length bs → o ≡ outs step out bs s₀ ++ drop (length bs) o₀
  answered_end {bs} {s₀} {s} {o} {o₀} {k} w h l =
      let e : length bs ≡ k = omega arith in
      rw e (filled_end (rw (outs_none bs k s (omega arith)) at w.so))
