-- One accepted call, seen by one slot.
use Prim.Native.Nat.{ℕ, ◌-◌, ◌<◌}
use mathlib.Core.Path.{◌≡◌, refl, sym, ◌∙◌}
use mathlib.Core.Bool.{Bool, true, false, cond}
use mathlib.Core.List.{List, []}
use native.Mathlib.Omega.{arith}
use borrow.Author.Tests.{ltb-true, ltb-false, eqb-true, eqb-false, eq-eqb, ne_eqb}
use lib.Dec.{eqb, ltb}
use lib.ListN.{length, get_or, set}
use lib.Seq.{get_or-set_same, get_or-set_other, set_out}
use Rattle.laws.proofs.Tests.{clash}
use Rattle.numbers.specs.Scales.{sectors}
use Rattle.numbers.specs.Sectors.{sector_of}
use Rattle.numbers.proofs.SectorLaws.{ahead_soonest}
use Rattle.records.specs.declared.Track.{Track}
use Rattle.records.specs.Fields.{free, held, WellFormed}
use Rattle.laws.specs.Lists.{at}
use Rattle.records.specs.Bytes.{freed, slot_bytes, wait_at, mark_at, track_of, bytes_of, report_of, slot_due, is_free}
use Rattle.records.proofs.Checked.{slot_well_formed, sound}
use Rattle.records.proofs.RoundTrips.{Bytes}
use Rattle.std.specs.Prelude.{Option, Some, None}
use Rattle.settling.specs.Settle.{without_pair}
use Rattle.settling.proofs.HandedOn.{ServedTrack, updated_served, coasted_served, started_served}
use Rattle.matching.specs.Pairing.{none}
use Rattle.intake.specs.Refusals.{Input, Ready}
use Rattle.walk.specs.Table.{paired_slot, missed_slot, aged_slot, settled_slot, settled_table}
use Rattle.walk.specs.Ready.{SlotReady}
use Rattle.scoresheet.proofs.Due.{due_track_lem}
use Rattle.walk.proofs.Slots.{waits_on, aged_byte, missed_kept, missed_dropped}
use Rattle.walk.proofs.Settled.{rank_of, track_mark, settled_at, settles_at}
use Rattle.fates.specs.Fates.{Handed, free_slot, after_report, report_numbers, started_table}
use Rattle.laws.proofs.Rounds.{all_keep}
use Rattle.records.proofs.Packed.{well_packed}
use Rattle.fates.proofs.Starts.{GoodReports, report_keeps}
use Rattle.sector.specs.Serve.{Lent, input_of, reports_in}
use Rattle.promises.proofs.Slots.{left_slot, kept}
use Rattle.turns.specs.Calls.{Accepted, slot_at, WaitsOn, ServedIn, WaitSet}
use Rattle.turns.proofs.Table.{outcome, was_ready, names, good_reports}
use Rattle.promises.proofs.Held.{aged_mark_same}

-- ---- a track that waits

-- a wait is not the mark
pub mark_kept : (slot : List ℕ) (w : ℕ) → at (set slot wait_at w) mark_at ≡ at slot mark_at
mark_kept slot w = get_or-set_other slot wait_at mark_at w 0 (λ e. omega arith)

pub wait_stored : (slot : List ℕ) (w : ℕ) → Bytes slot_bytes slot → at (set slot wait_at w) wait_at ≡ w
wait_stored slot w b = get_or-set_same slot wait_at w 0 (omega (arith, b.count))

pub held_not_free : (slot : List ℕ) → at slot mark_at ≡ held → is_free slot ≡ false
held_not_free slot e = rw e

-- it is aged, whatever the pairing
pub not_due_ages : (s : ℕ) (batch : List (List ℕ)) (P slot : List ℕ) (rank : ℕ) → slot_due slot ≡ false → settled_slot s batch P slot rank ≡ aged_slot slot
unfolding settled_slot
not_due_ages s batch P slot rank d = rw d

-- and then holds the same track
pub aged_held : (slot : List ℕ) → at slot mark_at ≡ held → at (aged_slot slot) mark_at ≡ held
aged_held slot m = eqb-true (at (aged_slot slot) mark_at) held (aged_mark_same slot ∙ eq-eqb (at slot mark_at) held m)

-- a slot that holds a track at entry and is not due is aged
pub ages : {l l' : Lent} → Accepted l l' → (k : ℕ) → k < length l.table → at (slot_at l k) mark_at ≡ held → slot_due (slot_at l k) ≡ false → slot_at l' k ≡ aged_slot (slot_at l k)
ages {l} {l'} a k h m d = kept i l l' _ (outcome a) k (rw aged (held_not_free (aged_slot (slot_at l k)) (aged_held (slot_at l k) m))) ∙ aged
  where
    i : Input
    i = input_of l a.site a.batch

    aged : get_or (settled_table i (outcome a).chosen.pairing) k [] ≡ aged_slot (slot_at l k)
    aged = settled_at i _ k h ∙ not_due_ages i.sector i.batch _ (slot_at l k) (rank_of i.table k) d

-- A slot that holds a track at entry and is not due has the same bytes after the call but for the wait, which is 1 less.
pub waits_one_less : {l l' : Lent} → Accepted l l' → (k : ℕ) → k < length l.table → Bytes slot_bytes (slot_at l k) → at (slot_at l k) mark_at ≡ held → slot_due (slot_at l k) ≡ false → WaitsOn 1 (slot_at l k) (slot_at l' k)
waits_one_less {l} {l'} a k h b m d =
    let whole : slot_at l' k ≡ set (slot_at l k) wait_at (at (slot_at l k) wait_at - 1) = ages a k h m d ∙ aged_byte (slot_at l k) b m in
    record { only_wait = whole; less = rw (whole, wait_stored (slot_at l k) (at (slot_at l k) wait_at - 1) b) (omega (arith, waits_on (slot_at l k) d m)) }

-- ---- a track that the call served or started

-- packed, it says the same
packed_served : {t : Track} {s : ℕ} → ServedTrack t s → ServedTrack (track_of (bytes_of t)) s
packed_served {t} {s} w = rw (well_packed t _ w.well) w

-- a slot that is free, or holds a track as it leaves the call that served sector s
pub record JustServed (s : ℕ) (slot : List ℕ) : Type 0 where
  pub served : is_free slot ≡ false → ServedTrack (track_of slot) s

fresh_bytes : {t : Track} {s : ℕ} → ServedTrack t s → JustServed s (bytes_of t)
fresh_bytes w = record { served = λ f. packed_served w }

fresh_free : (s : ℕ) (slot : List ℕ) → is_free slot ≡ true → JustServed s slot
fresh_free s slot e = record { served = λ f. absurd (clash e f) }

freed_free : is_free freed ≡ true
unfolding freed
freed_free = refl

fresh_missed : (s : ℕ) (slot : List ℕ) → s < sectors → WellFormed (track_of slot) s → JustServed s (missed_slot s slot)
fresh_missed s slot h w = go (without_pair (track_of slot) s) refl
  where
    go : (u : Option Track) → without_pair (track_of slot) s ≡ u → JustServed s (missed_slot s slot)
    go (Some t) e = rw (missed_kept s slot t e) (fresh_bytes (coasted_served (track_of slot) t s h w e))
    go None e = rw (missed_dropped s slot e) (fresh_free s freed freed_free)

-- a slot that is not malformed and does not hold a track is free, and ageing keeps it so
fresh_aged : {s : ℕ} {batch : List (List ℕ)} {P slot : List ℕ} {rank : ℕ} → SlotReady s batch P slot rank → (at slot mark_at ≡ held → ⊥) → JustServed s (aged_slot slot)
unfolding aged_slot
fresh_aged {s} {batch} {P} {slot} {rank} w n = rw (ne_eqb (at slot mark_at) held n) (go (eqb (at slot mark_at) free) refl)
  where
    go : (b : Bool) → eqb (at slot mark_at) free ≡ b → JustServed s slot
    go true e = fresh_free s slot e
    go false e = absurd (n (track_mark slot (slot_well_formed slot s w.slot_good (eqb-false (at slot mark_at) free e)).held_mark))

-- so every slot that did not hold a waiting track, as pairing leaves it
fresh_settled : {s : ℕ} {batch : List (List ℕ)} {P slot : List ℕ} {rank : ℕ} → SlotReady s batch P slot rank → (at slot mark_at ≡ held → slot_due slot ≡ true) → JustServed s (settled_slot s batch P slot rank)
unfolding settled_slot paired_slot
fresh_settled {s} {batch} {P} {slot} {rank} w n = go (slot_due slot) refl (eqb (at P rank) none) refl
  where
    go : (b : Bool) → slot_due slot ≡ b → (e : Bool) → eqb (at P rank) none ≡ e → JustServed s (cond b (cond e (missed_slot s slot) (paired_slot s (get_or batch (at P rank) []) slot)) (aged_slot slot))
    go true d true e = fresh_missed s slot w.sector_in (due_track_lem slot s w.slot_good d)
    go true d false e =
        let p = get_or batch (at P rank) [] in
        fresh_bytes (updated_served (track_of slot) (report_of p) s w.sector_in (sound (report_of p) (w.reports_good _ (w.there d (eqb-false (at P rank) none e)))))
    go false d e q = fresh_aged w (λ m. clash (n m) d)

-- what holds of slot k, and of what is stored in any slot, holds of slot k after
set_keeps : (R : List ℕ → Type 0) (k j : ℕ) (table : List (List ℕ)) (v : List ℕ) → R (get_or table k []) → R v → R (get_or (set table j v) k [])
set_keeps R k j table v q w = go (eqb k j) refl (ltb k (length table)) refl
  where
    go : (b : Bool) → eqb k j ≡ b → (c : Bool) → ltb k (length table) ≡ c → R (get_or (set table j v) k [])
    go true e true h = let m : j ≡ k = sym (eqb-true k j e) in rw (m, get_or-set_same table k v [] (ltb-true k (length table) h)) w
    go true e false h = let m : j ≡ k = sym (eqb-true k j e) in rw (m, set_out table k v (ltb-false k (length table) h)) q
    go false e c h = rw (get_or-set_other table j k v [] (eqb-false k j e)) q

fresh_started : (h : Handed) (P : List ℕ) (table : List (List ℕ)) (k : ℕ) → h.sector < sectors → GoodReports h → JustServed h.sector (get_or table k []) → JustServed h.sector (get_or (started_table h P table) k [])
unfolding started_table report_numbers
fresh_started h P table k l w g =
    all_keep (after_report h P) Q (length h.batch) (λ j. j) table
    (λ j t i q. report_keeps Q h P j t q (set_keeps (JustServed h.sector) k (free_slot t) t _ q (fresh_bytes (started_served _ h.sector l (w.azimuth_in j i) (w.sound j i)))))
    g
  where
    Q : List (List ℕ) → Type 0
    Q t = JustServed h.sector (get_or t k [])

-- A track that was updated, coasted and kept, or started in the call is stored with a wait of 15 to 46; counted from the next call's
-- sector it leads to the predicted sector.
pub served_waits : {l l' : Lent} (a : Accepted l l') (k : ℕ) → ServedIn l l' k → WaitSet l.sector (slot_at l' k)
unfolding track_of
served_waits {l} {l'} a k w = record {
  not_sooner = omega (arith, t.again, ahead_soonest l.sector (sector_of (track_of (slot_at l' k)).azimuth));
  not_later = t.well.wait_in;
  turn_comes = t.well.turn_comes;
}
  where
    i : Input
    i = input_of l a.site a.batch

    P : List ℕ
    P = (outcome a).chosen.pairing

    r : Ready i
    r = was_ready a

    settled : JustServed l.sector (get_or (settled_table i P) k [])
    settled = rw (settled_at i P k w.lies) (fresh_settled (settles_at i P r (names (outcome a).choice) k w.lies) w.was_due)

    left : JustServed l.sector (slot_at l' k)
    left = rw (left_slot i l l' _ (outcome a) k) (fresh_started (reports_in i) P (settled_table i P) k r.sector_in (good_reports r) settled)

    t : ServedTrack (track_of (slot_at l' k)) l.sector
    t = left.served (held_not_free (slot_at l' k) w.held_mark)
