-- What the reports change in the table: tracks start in free slots, and nothing else changes.
use Prim.Native.Nat.{ℕ, ◌<◌}
use mathlib.Core.Path.{◌≡◌, refl, sym, ◌∙◌}
use mathlib.Core.Bool.{Bool, true, false, cond}
use mathlib.Core.List.{List, []}
use borrow.Author.Tests.{ltb-true, ltb-false, eqb-true, eqb-false}
use lib.Dec.{eqb, ltb}
use lib.ListN.{length, get_or, set, length-set}
use lib.Seq.{get_or-set_same, get_or-set_other, set_out}
use Rattle.laws.specs.Lists.{after_all, numbers}
use Rattle.laws.proofs.Search.{first_found}
use Rattle.laws.proofs.Tests.{clash}
use Rattle.numbers.specs.Scales.{turn, sectors}
use Rattle.numbers.specs.Sectors.{next_sector}
use Rattle.records.specs.declared.Report.{Report}
use Rattle.records.specs.Fields.{track_fields, Sound}
use Rattle.records.specs.Bytes.{bytes_of, report_of, bad_slot_field, is_free, SlotsGood}
use Rattle.records.proofs.Packed.{packed_good}
use Rattle.settling.specs.Settle.{started_of}
use Rattle.settling.proofs.HandedOn.{started_served}
use Rattle.fates.specs.Fates.{started, fate_number, Handed, free_slot, owner_of, told_unpaired, after_unpaired, after_report, report_numbers, started_table}
use Rattle.laws.proofs.Rounds.{all_keep}

-- what a report that starts a track stores
abbrev pub new_slot : Handed → ℕ → List ℕ
new_slot h j = bytes_of (started_of (report_of (get_or h.batch j [])) h.sector)

-- a report leaves the table as it is, or starts its track in the lowest free slot: what both keep, it keeps
module _ (Q : List (List ℕ) → Type 0) (h : Handed) (P : List ℕ) (j : ℕ) (table : List (List ℕ)) where
  pub report_keeps : Q table → Q (set table (free_slot table) (new_slot h j)) → Q (after_report h P j table)
  unfolding after_report after_unpaired
  report_keeps q s = go (ltb (owner_of P j) (length P)) (eqb (fate_number (told_unpaired (report_of (get_or h.batch j [])) table).fate) started)
    where
      go : (a b : Bool) → Q (cond a table (cond b (set table (free_slot table) (new_slot h j)) table))
      go true b = q
      go false true = s
      go false false = q

-- the table as the reports before report j leave it
abbrev pub table_at : Handed → List ℕ → ℕ → List (List ℕ) → List (List ℕ)
table_at h P j table = after_all (after_report h P) (numbers j) table

-- it keeps its number of slots
pub length_at : (h : Handed) (P : List ℕ) (j : ℕ) (table : List (List ℕ)) → length (table_at h P j table) ≡ length table
length_at h P j table =
    all_keep (after_report h P) Q j (λ k. k) table (λ k t l e. report_keeps Q h P k t e (length-set t (free_slot t) _ ∙ e)) refl
  where
    Q : List (List ℕ) → Type 0
    Q t = length t ≡ length table

pub started_length : (h : Handed) (P : List ℕ) (table : List (List ℕ)) → length (started_table h P table) ≡ length table
unfolding started_table report_numbers
started_length h P table = length_at h P (length h.batch) table

-- a slot that is not free is not the one that a track starts in
pub start_elsewhere : (table : List (List ℕ)) (k : ℕ) (v : List ℕ) → is_free (get_or table k []) ≡ false → get_or (set table (free_slot table) v) k [] ≡ get_or table k []
unfolding free_slot
start_elsewhere table k v f = go (ltb (free_slot table) (length table)) refl
  where
    go : (b : Bool) → ltb (free_slot table) (length table) ≡ b → get_or (set table (free_slot table) v) k [] ≡ get_or table k []
    go true l =
        let t = first_found is_free table [] (ltb-true (free_slot table) (length table) l) in
        get_or-set_other table (free_slot table) k v [] (λ e. clash (rw (← e) at t) f)
    go false l = rw (set_out table (free_slot table) v (ltb-false (free_slot table) (length table) l))

-- so it keeps its bytes
pub held_at : (h : Handed) (P : List ℕ) (j : ℕ) (table : List (List ℕ)) (k : ℕ) → is_free (get_or table k []) ≡ false → get_or (table_at h P j table) k [] ≡ get_or table k []
held_at h P j table k f =
    all_keep (after_report h P) Q j (λ i. i) table (λ i t l e. report_keeps Q h P i t e (start_elsewhere t k _ (rw e f) ∙ e)) refl
  where
    Q : List (List ℕ) → Type 0
    Q t = get_or t k [] ≡ get_or table k []

pub held_slots_kept : (h : Handed) (P : List ℕ) (table : List (List ℕ)) (k : ℕ) → is_free (get_or table k []) ≡ false → get_or (started_table h P table) k [] ≡ get_or table k []
unfolding started_table report_numbers
held_slots_kept h P table k f = held_at h P (length h.batch) table k f

-- ---- well formed for the next call

-- a new track is one
new_good : (p : Report) (s : ℕ) → s < sectors → p.azimuth < turn → Sound p → bad_slot_field (bytes_of (started_of p s)) (next_sector s) ≡ track_fields
unfolding started_of
new_good p s h a w = packed_good (started_of p s) (next_sector s) (started_served p s h a w).well

-- what a call checks of its reports
pub record GoodReports (h : Handed) : Type 0 where
  pub sound : (j : ℕ) → j < length h.batch → Sound (report_of (get_or h.batch j []))
  pub azimuth_in : (j : ℕ) → j < length h.batch → (report_of (get_or h.batch j [])).azimuth < turn

-- a slot's new content is good, and the others are as they were
set_good : (s : ℕ) (table : List (List ℕ)) (i : ℕ) (v : List ℕ) → SlotsGood table s → bad_slot_field v s ≡ track_fields → SlotsGood (set table i v) s
set_good s table i v g e = λ k l. go k (rw (length-set table i v) at l) (eqb k i) refl
  where
    go : (k : ℕ) → k < length table → (b : Bool) → eqb k i ≡ b → bad_slot_field (get_or (set table i v) k []) s ≡ track_fields
    go k l true q = let m : i ≡ k = sym (eqb-true k i q) in rw (m, get_or-set_same table k v [] l) e
    go k l false q = rw (get_or-set_other table i k v [] (eqb-false k i q)) (g k l)

-- where every slot is well formed for the next call, every slot still is when the reports have started their tracks
pub started_good : (h : Handed) (P : List ℕ) (table : List (List ℕ)) → h.sector < sectors → GoodReports h → SlotsGood table (next_sector h.sector) → SlotsGood (started_table h P table) (next_sector h.sector)
unfolding started_table report_numbers
started_good h P table l w g =
    let s : ℕ = next_sector h.sector in
    all_keep (after_report h P) (λ t. SlotsGood t s) (length h.batch) (λ j. j) table
    (λ j t i q. report_keeps (λ t. SlotsGood t s) h P j t q (set_good s t (free_slot t) _ q (new_good _ h.sector l (w.azimuth_in j i) (w.sound j i))))
    g
