-- A track until its turn comes again, over any chain of accepted calls.
use Prim.Native.Nat.{ℕ, suc, ◌+◌, ◌-◌, ◌%◌, ◌≤◌, ◌<◌}
use mathlib.Core.Path.{◌≡◌, refl, sym, ap, ◌∙◌}
use mathlib.Core.Bool.{Bool, true, false}
use mathlib.Core.List.{List, []}
use native.Mathlib.Numerals.{unary_clauses}
use native.Mathlib.Omega.{arith}
use borrow.Author.Tests.{eqb-true, eqb-false, eq-eqb, ne_eqb}
use lib.Dec.{eqb}
use lib.ListN.{length, get_or, set, length-set}
use lib.Seq.{get_or-set_other, set-get_or, set-set}
use Rattle.numbers.specs.Scales.{sectors}
use Rattle.numbers.specs.Sectors.{sector_of, next_sector, calls_ahead}
use Rattle.numbers.proofs.SectorLaws.{ahead_only}
use Rattle.records.specs.Fields.{held}
use Rattle.laws.specs.Lists.{at}
use Rattle.records.specs.Bytes.{slot_bytes, wait_at, mark_at, track_of, slot_due}
use Rattle.records.proofs.RoundTrips.{Bytes}
use Rattle.sector.specs.Serve.{Lent}
use Rattle.turns.specs.Calls.{Accepted, Calls, no_more, one_more, slot_at, WaitsOn, ServedIn, WaitSet, StillThere, DueAt}
use Rattle.turns.proofs.Table.{was_ready, accepted_leaves_good}
use Rattle.turns.proofs.Slot.{mark_kept, wait_stored, waits_one_less, served_waits}

-- the table keeps its number of slots over many calls
pub slots_kept : {n : ℕ} {l last : Lent} → Calls n l last → length last.table ≡ length l.table
slots_kept no_more = refl
slots_kept (one_more c o a) = (accepted_leaves_good a).slots_same ∙ ap length o.table ∙ slots_kept c

-- a track is due just when its wait has run out
pub due_is : (slot : List ℕ) → at slot mark_at ≡ held → slot_due slot ≡ eqb (at slot wait_at) 0
unfolding slot_due
due_is slot m = rw m

pub runs_out : (w n rest : ℕ) → rest + n ≡ w → eqb rest 0 ≡ eqb n w
runs_out w n rest e = go (eqb n w) refl
  where
    go : (b : Bool) → eqb n w ≡ b → eqb rest 0 ≡ b
    go true q = eq-eqb rest 0 (omega (arith, eqb-true n w q))
    go false q = ne_eqb rest 0 (λ z. eqb-false n w q (omega arith))

-- a lower wait leaves bytes
bytes_still : (slot : List ℕ) (w : ℕ) → Bytes slot_bytes slot → w ≤ at slot wait_at → Bytes slot_bytes (set slot wait_at w)
bytes_still slot w b l = record {
  count = length-set slot wait_at w ∙ b.count;
  small = λ j h. go j h (eqb j wait_at) refl;
}
  where
    go : (j : ℕ) → j < slot_bytes → (c : Bool) → eqb j wait_at ≡ c → at (set slot wait_at w) j < 256
    go j h true e = rw (eqb-true j wait_at e, wait_stored slot w b) (omega (arith, b.small wait_at (omega arith)))
    go j h false e = rw (get_or-set_other slot wait_at j w 0 (eqb-false j wait_at e)) (b.small j h)

-- n calls and one more
one_less_again : {n : ℕ} {slot then after : List ℕ} → WaitsOn n slot then → WaitsOn 1 then after → WaitsOn (suc n) slot after
one_less_again {n} {slot} {then} {after} p q =
    let w : at then wait_at - 1 ≡ at slot wait_at - suc n = omega (arith, p.less, q.less) in
    record {
      only_wait = q.only_wait ∙ rw w (rw p.only_wait (set-set slot wait_at _ _));
      less = omega (arith, p.less, q.less);
    }

waits_still : {n : ℕ} {l last : Lent} → Calls n l last → (k : ℕ) → k < length l.table → Bytes slot_bytes (slot_at l k) → at (slot_at l k) mark_at ≡ held → n ≤ at (slot_at l k) wait_at → WaitsOn n (slot_at l k) (slot_at last k)
waits_still {l = l} no_more k h b m w = record { only_wait = simp unary_clauses (sym (set-get_or (slot_at l k) wait_at 0)); less = omega arith }
waits_still (one_more {n} {l} {l'} {next} {last} c o a) k h b m w =
    let before : WaitsOn n (slot_at l k) (slot_at l' k) = waits_still c k h b m (omega arith) in
    let same : slot_at next k ≡ slot_at l' k = ap (λ (t : List (List ℕ)). get_or t k []) o.table in
    let then : slot_at next k ≡ set (slot_at l k) wait_at (at (slot_at l k) wait_at - n) = same ∙ before.only_wait in
    let bytes : Bytes slot_bytes (slot_at next k) = rw then (bytes_still (slot_at l k) _ b (omega arith)) in
    let mark : at (slot_at next k) mark_at ≡ held = rw then (mark_kept (slot_at l k) _ ∙ m) in
    let ahead : WaitsOn n (slot_at l k) (slot_at next k) = rw same before in
    let not-due : slot_due (slot_at next k) ≡ false = due_is (slot_at next k) mark ∙ ne_eqb (at (slot_at next k) wait_at) 0 (λ z. omega (arith, ahead.less)) in
    one_less_again ahead (waits_one_less a k (rw (o.table, slots_kept c) h) bytes mark not-due)

-- A track that waits w calls is still there after each of the next w accepted calls, whatever they are handed: its other bytes are
-- untouched, its wait falls by one a call, and it is due when w calls have passed and not before. So it is due at the next after those.
pub due_again : {n : ℕ} {l last : Lent} → Calls n l last → (k : ℕ) → k < length l.table → Bytes slot_bytes (slot_at l k) → at (slot_at l k) mark_at ≡ held → n ≤ at (slot_at l k) wait_at → StillThere n (slot_at l k) (slot_at last k)
due_again {n} {l} {last} c k h b m w =
    let on : WaitsOn n (slot_at l k) (slot_at last k) = waits_still c k h b m w in
    let mark : at (slot_at last k) mark_at ≡ held = rw on.only_wait (mark_kept (slot_at l k) _ ∙ m) in
    record {
      waits_on = on;
      held_mark = mark;
      due_when = due_is (slot_at last k) mark ∙ runs_out (at (slot_at l k) wait_at) n (at (slot_at last k) wait_at) on.less;
    }

-- counted from the call itself, not from the next
from_here : (s w p : ℕ) → (next_sector s + w) % sectors ≡ p → (s + (w + 1)) % sectors ≡ p
unfolding next_sector
from_here s w p e = omega arith

-- A track that an accepted call updated, coasted or started is due j calls later, j the one of 16..47 that leads to its predicted
-- sector, and at none of the calls between.
pub served_due_again : {l l' : Lent} → Accepted l l' → (k : ℕ) → ServedIn l l' k → Bytes slot_bytes (slot_at l' k) → DueAt (calls_ahead l.sector (sector_of (track_of (slot_at l' k)).azimuth)) l l' k
served_due_again {l} {l'} a k w b = rw (← j_is) (record {
  not_sooner = t.not_sooner;
  not_later = omega (arith, t.not_later);
  meets = meets;
  stored = refl;
  until = λ c h. due_again c k (rw (accepted_leaves_good a).slots_same w.lies) b w.held_mark (omega arith);
})
  where
    t : WaitSet l.sector (slot_at l' k)
    t = served_waits a k w

    meets : (l.sector + (at (slot_at l' k) wait_at + 1)) % sectors ≡ sector_of (track_of (slot_at l' k)).azimuth
    meets = from_here l.sector _ _ t.turn_comes

    j_is : at (slot_at l' k) wait_at + 1 ≡ calls_ahead l.sector (sector_of (track_of (slot_at l' k)).azimuth)
    j_is = ahead_only l.sector _ _ (was_ready a).sector_in (omega (arith, meets)) t.not_sooner (omega (arith, t.not_later)) meets
