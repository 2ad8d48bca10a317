-- How many tracks the next calls will find due, as the waits of the table say.
use Prim.Native.Nat.{ℕ, suc, ◌+◌, ◌-◌, ◌≤◌, ◌<◌}
use mathlib.Core.Path.{◌≡◌, refl, sym, ap, ◌∙◌}
use mathlib.Core.Bool.{Bool, true, false, cond, ◌&&◌}
use mathlib.Core.List.{List, []}
use mathlib.Core.Logic.{◌⊎◌, inl, inr, ⊎_elim}
use native.Mathlib.Omega.{arith}
use borrow.Author.Tests.{eqb-true, eq-eqb, ne_eqb}
use lib.Dec.{eqb}
use lib.ListN.{length, get_or}
use Rattle.laws.specs.Sums.{sum}
use Rattle.laws.proofs.Sums.{sum_same, sum_le}
use Rattle.laws.proofs.Stores.{same_or}
use Rattle.laws.proofs.Tests.{and_left, and_right}
use Rattle.numbers.specs.Scales.{soonest}
use Rattle.records.specs.Fields.{held}
use Rattle.laws.specs.Lists.{at}
use Rattle.records.specs.Bytes.{wait_at, mark_at, track_of, bytes_of, slot_due}
use Rattle.settling.specs.Settle.{aged_of}
use Rattle.intake.specs.Refusals.{due_slots}
use Rattle.walk.specs.Table.{aged_slot}
use Rattle.walk.proofs.Slots.{waits_on}
use Rattle.sector.specs.Serve.{Lent}
use Rattle.laws.proofs.Counts.{count_places}
use Rattle.turns.specs.Calls.{Accepted, HandsOn, Calls, no_more, one_more, slot_at, waiting, waiting_count}
use Rattle.turns.proofs.Slot.{aged_held, ages, served_waits}
use Rattle.turns.proofs.Again.{slots_kept, due_is, runs_out}

-- ---- one slot, by its mark and its wait

abbrev Held : List ℕ → Type 0
Held slot = at slot mark_at ≡ held

aged_wait : (slot : List ℕ) → Held slot → at (aged_slot slot) wait_at ≡ at slot wait_at - 1
unfolding aged_slot aged_of track_of bytes_of
aged_wait slot m = rw (eq-eqb (at slot mark_at) held m)

-- no track, or another wait
not_both : (mark x y : ℕ) → (mark ≡ held → x ≡ y → ⊥) → (eqb mark held && eqb x y) ≡ false
not_both mark x y h = go (eqb mark held) refl (eqb x y) refl
  where
    go : (a : Bool) → eqb mark held ≡ a → (b : Bool) → eqb x y ≡ b → (a && b) ≡ false
    go true p true q = absurd (h (eqb-true mark held p) (eqb-true x y q))
    go true p false q = refl
    go false p b q = refl

module _ (n : ℕ) (first slot : List ℕ) where
  -- n calls later a slot holds the track that it held first, nearer to its turn by n
  record Same : Type 0 where
    pub held_first : Held first
    pub held_mark : Held slot
    pub nearer : at slot wait_at + n ≡ at first wait_at

  -- or none that waits less than a track served since, and the first one's turn has come
  record Since : Type 0 where
    pub come : Held first → at first wait_at < n
    pub later : Held slot → soonest ≤ at slot wait_at + n

  -- in the next calls a slot is due exactly where it held a track that waits n calls
  seen : n < soonest → Same ⊎ Since → slot_due slot ≡ waiting n first
  unfolding slot_due waiting
  seen h =
      ⊎_elim
      (λ w. due_is slot w.held_mark ∙ runs_out (at first wait_at) n (at slot wait_at) w.nearer ∙ sym (rw (eq-eqb (at first mark_at) held w.held_first)))
      (λ w.
      not_both (at slot mark_at) (at slot wait_at) 0 (λ m z. omega (arith, w.later m))
      ∙ sym (not_both (at first mark_at) n (at first wait_at) (λ m z. omega (arith, w.come m))))

-- one call more
module _ {l l' : Lent} (a : Accepted l l') (k : ℕ) (lies : k < length l.table) where
  -- a slot whose track waits on
  waits : Held (slot_at l k) → slot_due (slot_at l k) ≡ false → Held (slot_at l' k) × (at (slot_at l' k) wait_at ≡ at (slot_at l k) wait_at - 1)
  waits m d = rw (ages a k lies m d) (aged_held (slot_at l k) m, aged_wait (slot_at l k) m)

  -- any other
  served : (Held (slot_at l k) → slot_due (slot_at l k) ≡ true) → Held (slot_at l' k) → soonest ≤ at (slot_at l' k) wait_at + 1
  served d m = (served_waits a k (record { lies = lies; held_mark = m; was_due = d })).not_sooner

  same_more : {n : ℕ} {first : List ℕ} (b : Bool) → slot_due (slot_at l k) ≡ b → Same n first (slot_at l k) → Same (suc n) first (slot_at l' k) ⊎ Since (suc n) first (slot_at l' k)
  same_more {n} {first} true d w = inr (record {
    come = λ m. omega (arith, w.nearer, eqb-true (at (slot_at l k) wait_at) 0 (sym (due_is (slot_at l k) w.held_mark) ∙ d));
    later = λ m. omega (arith, served (λ q. d) m);
  })
  same_more {n} {first} false d w =
      let v = waits w.held_mark d in
      inl (record { held_first = w.held_first; held_mark = v.0; nearer = omega (arith, v.1, w.nearer, waits_on (slot_at l k) d w.held_mark) })

  since_more : {n : ℕ} {first : List ℕ} → suc n < soonest → Since n first (slot_at l k) → Since (suc n) first (slot_at l' k)
  since_more {n} {first} h w = record { come = λ m. omega (arith, w.come m); later = ⊎_elim waiting_on other (same_or (at (slot_at l k) mark_at) held) }
    where
      waiting_on : Held (slot_at l k) → Held (slot_at l' k) → soonest ≤ at (slot_at l' k) wait_at + suc n
      waiting_on m q =
          let d : slot_due (slot_at l k) ≡ false = due_is (slot_at l k) m ∙ ne_eqb (at (slot_at l k) wait_at) 0 (λ z. omega (arith, w.later m)) in
          omega (arith, w.later m, (waits m d).1)

      other : (Held (slot_at l k) → ⊥) → Held (slot_at l' k) → soonest ≤ at (slot_at l' k) wait_at + suc n
      other empty q = omega (arith, served (λ m. absurd (empty m)) q)

-- what a call leaves, the next finds
found : {n : ℕ} {l l' next : Lent} (c : Calls n l l') → HandsOn l' next → (k : ℕ) → k < length l.table → (slot_at next k ≡ slot_at l' k) × (k < length next.table)
found c o k lies = (ap (λ (t : List (List ℕ)). get_or t k []) o.table, rw (o.table, slots_kept c) lies)

kinds : {n : ℕ} {l last : Lent} → Calls n l last → n < soonest → (k : ℕ) → k < length l.table → Same n (slot_at l k) (slot_at last k) ⊎ Since n (slot_at l k) (slot_at last k)
kinds {l = l} no_more h k lies =
    ⊎_elim
    (λ m. inl (record { held_first = m; held_mark = m; nearer = omega arith }))
    (λ empty. inr (record { come = λ m. absurd (empty m); later = λ m. absurd (empty m) }))
    (same_or (at (slot_at l k) mark_at) held)
kinds (one_more {n} {l} {l'} {next} {last} c o a) h k lies =
    let f = found c o k lies in
    ⊎_elim (λ w. same_more a k f.1 _ refl w) (λ w. inr (since_more a k f.1 h w))
    (rw (← f.0) at (kinds c (omega arith) k lies))

-- a track that waits n calls or more is there n calls later
still_same : {n : ℕ} {l last : Lent} → Calls n l last → (k : ℕ) → k < length l.table → Held (slot_at l k) → n ≤ at (slot_at l k) wait_at → Same n (slot_at l k) (slot_at last k)
still_same no_more k lies m h = record { held_first = m; held_mark = m; nearer = omega arith }
still_same (one_more {n} {l} {l'} {next} {last} c o a) k lies m h =
    let f = found c o k lies in
    let w : Same n (slot_at l k) (slot_at next k) = rw f.0 (still_same c k lies m (omega arith)) in
    let d : slot_due (slot_at next k) ≡ false = due_is (slot_at next k) w.held_mark ∙ ne_eqb (at (slot_at next k) wait_at) 0 (λ z. omega (arith, w.nearer)) in
    let v = waits a k f.1 w.held_mark d in
    record { held_first = m; held_mark = v.0; nearer = omega (arith, v.1, w.nearer) }

-- ---- the whole table

-- how many are due, or wait n calls, as a sum over the slots
due_sum : (l : Lent) → length (due_slots l.table) ≡ sum (length l.table) (λ k. cond (slot_due (slot_at l k)) 1 0)
unfolding due_slots
due_sum l = count_places slot_due l.table []

waiting_sum : (n : ℕ) (l : Lent) → waiting_count n l.table ≡ sum (length l.table) (λ k. cond (waiting n (slot_at l k)) 1 0)
unfolding waiting_count
waiting_sum n l = count_places (waiting n) l.table []

-- Each of the next 16 calls finds exactly those tracks due that wait so many calls: what is served or started meanwhile comes later.
pub due_count_ahead : {n : ℕ} {l last : Lent} → Calls n l last → n < soonest → length (due_slots last.table) ≡ waiting_count n l.table
due_count_ahead {n} {l} {last} c h =
    due_sum last
    ∙ ap (λ (m : ℕ). sum m (λ k. cond (slot_due (slot_at last k)) 1 0)) (slots_kept c)
    ∙ sum_same (length l.table) _ _ (λ k b. ap (λ (x : Bool). cond x 1 0) (seen n (slot_at l k) (slot_at last k) h (kinds c h k b)))
    ∙ sym (waiting_sum n l)

-- And every call finds at least those due.
pub due_count_at_least : {n : ℕ} {l last : Lent} → Calls n l last → waiting_count n l.table ≤ length (due_slots last.table)
unfolding waiting
due_count_at_least {n} {l} {last} c =
    rw (due_sum last, slots_kept c, waiting_sum n l)
    (sum_le (length l.table) _ _ (λ k b. go k b (waiting n (slot_at l k)) refl))
  where
    go : (k : ℕ) → k < length l.table → (w : Bool) → waiting n (slot_at l k) ≡ w → cond w 1 0 ≤ cond (slot_due (slot_at last k)) 1 0
    go k b false e = omega arith
    go k b true e =
        let m : Held (slot_at l k) = eqb-true _ held (and_left _ _ e) in
        let t : n ≡ at (slot_at l k) wait_at = eqb-true n _ (and_right (eqb (at (slot_at l k) mark_at) held) _ e) in
        let w : Same n (slot_at l k) (slot_at last k) = still_same c k b m (omega arith) in
        rw (due_is (slot_at last k) w.held_mark, eq-eqb (at (slot_at last k) wait_at) 0 (omega (arith, w.nearer))) (omega arith)
