-- Laws of the settled table: its slots one by one, none of them malformed for the next call; and the counts of missed tracks.
use Prim.Native.Nat.{ℕ, suc, ◌+◌, ◌<◌}
use mathlib.Core.Path.{◌≡◌, refl, sym, ap, ◌∙◌}
use mathlib.Core.Bool.{Bool, true, false, cond}
use mathlib.Core.List.{List, [], ◌∷◌}
use native.Mathlib.Nat.{zero-add}
use native.Mathlib.Omega.{arith}
use lib.Dec.{eqb}
use lib.ListN.{length, get_or, take}
use borrow.Author.Tests.{eqb-true, eqb-false}
use Rattle.laws.specs.Lists.{at, after_all, indices_from}
use Rattle.laws.specs.Sums.{sum}
use Rattle.laws.proofs.Fold.{length_outs}
use Rattle.laws.proofs.Sums.{sum_add, sum_same, count_both}
use Rattle.numbers.specs.Scales.{sectors}
use Rattle.numbers.specs.Sectors.{next_sector}
use Rattle.records.specs.Fields.{free, held, track_fields, report_fields, bad_report_field, WellFormed}
use Rattle.records.specs.Bytes.{freed, mark_at, track_of, bytes_of, report_of, bad_slot_field, slot_due}
use Rattle.records.proofs.Checked.{free_slot_good, slot_well_formed, sound}
use Rattle.records.proofs.Packed.{packed_good}
use Rattle.std.specs.Prelude.{Option, Some, None}
use Rattle.records.specs.declared.Track.{Track}
use Rattle.settling.specs.Settle.{without_pair, aged_of}
use Rattle.settling.proofs.HandedOn.{updated_served, coasted_served, aged_well_formed}
use Rattle.matching.specs.Pairing.{none}
use Rattle.intake.specs.Refusals.{Input, due_slots, Ready}
use Rattle.walk.specs.Table.{paired_slot, missed_slot, aged_slot, due_rank, settled_slot, slot_price, settled_table, slot_prices, coasted_one, dropped_one, missed_at, missed_sum, coasted_count, dropped_count}
use Rattle.walk.specs.Ready.{Names, SlotReady}
use Rattle.laws.proofs.Ranks.{outs_at, ranked}
use Rattle.scoresheet.proofs.Due.{due_track_lem}
use Rattle.walk.proofs.Slots.{track_waits_on, missed_kept, missed_dropped}

-- the table keeps its number of slots
pub settled_length : (i : Input) (P : List ℕ) → length (settled_table i P) ≡ length i.table
unfolding settled_table
settled_length i P = length_outs due_rank _ i.table 0

-- counting on from s comes to s and the number of due slots
pub ranks : (slots : List (List ℕ)) (base s : ℕ) → after_all due_rank slots s ≡ s + length (indices_from slot_due base slots)
unfolding after_all due_rank indices_from
ranks [] base s = omega arith
ranks (x ∷ slots) base s = go (slot_due x) (ranks slots (suc base) (s + cond (slot_due x) 1 0)) refl
  where
    go : (b : Bool) → after_all due_rank slots (s + cond (slot_due x) 1 0) ≡ s + cond (slot_due x) 1 0 + length (indices_from slot_due (suc base) slots) → slot_due x ≡ b → after_all due_rank slots (s + cond (slot_due x) 1 0) ≡ s + length (cond (slot_due x) (base ∷ indices_from slot_due (suc base) slots) (indices_from slot_due (suc base) slots))
    go true h e = h ∙ rw e (omega arith)
    go false h e = h ∙ rw e (omega arith)

-- the rank of slot k: how many slots before it are due
abbrev pub rank_of : List (List ℕ) → ℕ → ℕ
rank_of table k = length (due_slots (take k table))

-- the due list has a due slot at its rank
pub due_at_rank : (i : Input) (k : ℕ) → k < length i.table → slot_due (get_or i.table k []) ≡ true → (rank_of i.table k < length (due_slots i.table)) × (get_or (due_slots i.table) (rank_of i.table k) 0 ≡ k)
unfolding due_slots
due_at_rank i k h d = let w = ranked slot_due 0 i.table k [] h d in (w.lies, w.names ∙ zero-add k)

-- slot k is settled at its rank
pub settled_at : (i : Input) (P : List ℕ) (k : ℕ) → k < length i.table → get_or (settled_table i P) k [] ≡ settled_slot i.sector i.batch P (get_or i.table k []) (rank_of i.table k)
unfolding settled_table due_slots
settled_at i P k h = outs_at due_rank _ i.table 0 k [] [] h ∙ ap (settled_slot i.sector i.batch P (get_or i.table k [])) (ranks (take k i.table) 0 0 ∙ omega arith)

-- and priced at its rank
pub prices_length : (i : Input) (prices : List ℕ) → length (slot_prices i prices) ≡ length i.table
unfolding slot_prices
prices_length i prices = length_outs due_rank _ i.table 0

pub price_at : (i : Input) (prices : List ℕ) (k : ℕ) → k < length i.table → get_or (slot_prices i prices) k 0 ≡ slot_price prices (get_or i.table k []) (rank_of i.table k)
unfolding slot_prices due_slots
price_at i prices k h = outs_at due_rank _ i.table 0 k [] 0 h ∙ ap (slot_price prices (get_or i.table k [])) (ranks (take k i.table) 0 0 ∙ omega arith)

-- ---- no slot is malformed for the next call

freed_slot_good : (s : ℕ) → bad_slot_field freed s ≡ track_fields
unfolding freed
freed_slot_good s = free_slot_good freed s refl

pub track_mark : (slot : List ℕ) → (track_of slot).mark ≡ held → at slot mark_at ≡ held
unfolding track_of
track_mark slot e = e

paired_good : (s : ℕ) (report slot : List ℕ) → s < sectors → bad_report_field (report_of report) ≡ report_fields → bad_slot_field (paired_slot s report slot) (next_sector s) ≡ track_fields
unfolding paired_slot
paired_good s report slot h e = packed_good _ (next_sector s) (updated_served (track_of slot) (report_of report) s h (sound (report_of report) e)).well

missed_good : (s : ℕ) (slot : List ℕ) → s < sectors → WellFormed (track_of slot) s → bad_slot_field (missed_slot s slot) (next_sector s) ≡ track_fields
missed_good s slot h w = go (without_pair (track_of slot) s) refl
  where
    go : (u : Option Track) → without_pair (track_of slot) s ≡ u → bad_slot_field (missed_slot s slot) (next_sector s) ≡ track_fields
    go (Some t) e = rw (missed_kept s slot t e) (packed_good t (next_sector s) (coasted_served (track_of slot) t s h w e).well)
    go None e = rw (missed_dropped s slot e) (freed_slot_good (next_sector s))

aged_good : (s : ℕ) (slot : List ℕ) → bad_slot_field slot s ≡ track_fields → slot_due slot ≡ false → bad_slot_field (aged_slot slot) (next_sector s) ≡ track_fields
unfolding aged_slot
aged_good s slot g d = go (eqb (at slot mark_at) held) refl (eqb (at slot mark_at) free) refl
  where
    go : (b : Bool) → eqb (at slot mark_at) held ≡ b → (f : Bool) → eqb (at slot mark_at) free ≡ f → bad_slot_field (cond b (bytes_of (aged_of (track_of slot))) slot) (next_sector s) ≡ track_fields
    go true m f q =
        let mark : at slot mark_at ≡ held = eqb-true (at slot mark_at) held m in
        let w : WellFormed (track_of slot) s = slot_well_formed slot s g (λ z. omega arith) in
        packed_good _ (next_sector s) (aged_well_formed (track_of slot) s w (track_waits_on slot d mark).1)
    go false m true q = free_slot_good slot (next_sector s) (eqb-true (at slot mark_at) free q)
    go false m false q =
        let w : WellFormed (track_of slot) s = slot_well_formed slot s g (eqb-false (at slot mark_at) free q) in
        absurd (eqb-false (at slot mark_at) held m (track_mark slot w.held_mark))

-- a slot that its step may count on is not malformed for the next call
pub slot_good : {s : ℕ} {batch : List (List ℕ)} {P slot : List ℕ} {rank : ℕ} → SlotReady s batch P slot rank → bad_slot_field (settled_slot s batch P slot rank) (next_sector s) ≡ track_fields
unfolding settled_slot
slot_good {s} {batch} {P} {slot} {rank} w = go (slot_due slot) refl (eqb (at P rank) none) refl
  where
    go : (b : Bool) → slot_due slot ≡ b → (n : Bool) → eqb (at P rank) none ≡ n → bad_slot_field (cond b (cond n (missed_slot s slot) (paired_slot s (get_or batch (at P rank) []) slot)) (aged_slot slot)) (next_sector s) ≡ track_fields
    go true d true e = missed_good s slot w.sector_in (due_track_lem slot s w.slot_good d)
    go true d false e = paired_good s _ slot w.sector_in (w.reports_good _ (w.there d (eqb-false (at P rank) none e)))
    go false d n e = aged_good s slot w.slot_good d

-- slot k at its rank
pub settles_at : (i : Input) (P : List ℕ) → Ready i → Names i P → (k : ℕ) → k < length i.table → SlotReady i.sector i.batch P (get_or i.table k []) (rank_of i.table k)
settles_at i P r q k h =
    let lies : slot_due (get_or i.table k []) ≡ true → rank_of i.table k < length (due_slots i.table) = λ d. (due_at_rank i k h d).0 in
    record {
      sector_in = r.sector_in;
      slot_good = r.slots_good k h;
      reports_good = r.reports_good;
      ranked = λ d. omega (arith, lies d, q.number_each);
      there = λ d n. q.there _ (lies d) n;
    }

-- no slot of the settled table is malformed for the next call
pub settled_good : (i : Input) (P : List ℕ) → Ready i → Names i P → (k : ℕ) → k < length i.table → bad_slot_field (get_or (settled_table i P) k []) (next_sector i.sector) ≡ track_fields
settled_good i P r q k h = rw (settled_at i P k h) (slot_good (settles_at i P r q k h))

-- ---- the counts

-- a due track without a pair coasts or is dropped
kept_or_dropped : (u : Option Track) → coasted_one u + dropped_one u ≡ 1
unfolding coasted_one dropped_one
kept_or_dropped (Some t) = refl
kept_or_dropped None = refl

-- those that coast and those that are dropped are those without a pair
pub missed_counts : (i : Input) (n : ℕ) (P : List ℕ) → coasted_count i n P + dropped_count i n P ≡ sum n (λ rank. cond (eqb (at P rank) none) 1 0)
unfolding coasted_count dropped_count missed_sum
missed_counts i n P = sym (sum_add n _ _) ∙ sum_same n _ _ (λ rank l. go (eqb (at P rank) none) (missed_at i.table i.sector rank))
  where
    go : (b : Bool) (u : Option Track) → cond b (coasted_one u) 0 + cond b (dropped_one u) 0 ≡ cond b 1 0
    go true u = kept_or_dropped u
    go false u = refl

-- and with the paired ones they are all the due tracks
pub all_counted : (i : Input) (n : ℕ) (P : List ℕ) → sum n (λ rank. cond (eqb (at P rank) none) 0 1) + (coasted_count i n P + dropped_count i n P) ≡ n
all_counted i n P = rw (missed_counts i n P) (count_both n (λ rank. eqb (at P rank) none))
