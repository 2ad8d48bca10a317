-- What the answers say of the reports: each has one of four fates, and its shown mark goes by the table as pairing left it.
use Prim.Native.Nat.{ℕ, suc, ◌+◌, ◌<◌}
use mathlib.Core.Path.{◌≡◌, refl, ◌∙◌}
use mathlib.Core.Bool.{Bool, true, false, cond}
use mathlib.Core.List.{List, [], ◌∷◌, ◌++◌}
use native.Mathlib.Omega.{arith}
use borrow.Author.Tests.{ltb-true}
use lib.Dec.{eqb, leb, ltb}
use lib.ListN.{length, get_or, take}
use lib.Seq.{take_at}
use Rattle.laws.specs.Lists.{outs, numbers}
use Rattle.laws.proofs.Listed.{length_listed}
use Rattle.laws.proofs.Fold.{length_outs}
use Rattle.records.specs.Fields.{is_weak}
use Rattle.records.specs.Bytes.{report_of, is_free}
use Rattle.fates.specs.Fates.{paired, started, weak, full, fate_number, mark, Handed, free_slot, owner_of, shown_mark, slot_of, told_paired, told_by, told_unpaired, told_of, after_report, report_numbers, fates_of, slots_of, shown_of, count_of}
use Rattle.laws.proofs.Rounds.{told_at}
use Rattle.fates.proofs.Telling.{fate_out, slot_out, shown_out}
use Rattle.fates.proofs.Starts.{table_at, held_at}
use Rattle.laws.proofs.Counts.{count_cons, count_none}

-- ---- an answer a report

module _ (h : Handed) (P : List ℕ) (table : List (List ℕ)) where
  answer_each : (out : ℕ → List (List ℕ) → ℕ) → length (outs (after_report h P) out (numbers (length h.batch)) table) ≡ length h.batch
  answer_each out = length_outs (after_report h P) out (numbers (length h.batch)) table ∙ length_listed (length h.batch) (λ j. j)

  pub length_fates : length (fates_of h P table) ≡ length h.batch
  unfolding fates_of report_numbers
  length_fates = answer_each (fate_out h P)

  pub length_slots : length (slots_of h P table) ≡ length h.batch
  unfolding slots_of report_numbers
  length_slots = answer_each (slot_out h P)

  pub length_shown : length (shown_of h P table) ≡ length h.batch
  unfolding shown_of report_numbers
  length_shown = answer_each (shown_out h P)

  -- the fates that are counted are those of the reports, whatever lies beyond them
  pub fates_taken : (rest : List ℕ) → take (length h.batch) (fates_of h P table ++ rest) ≡ fates_of h P table
  fates_taken rest = take_at (fates_of h P table) rest (length h.batch) length_fates

-- ---- one fate each

-- one of the four
pub data Fate : ℕ → Type 0 where
  is_paired : Fate paired
  is_started : Fate started
  is_weak_lem : Fate weak
  is_full : Fate full

told_fate : (h : Handed) (P : List ℕ) (j : ℕ) (table : List (List ℕ)) → Fate (fate_out h P j table)
unfolding told_of told_paired told_unpaired fate_number
told_fate h P j table = go (ltb (owner_of P j) (length P)) (is_weak (report_of (get_or h.batch j []))) (leb (length table) (free_slot table))
  where
    go : (a b c : Bool) → Fate (fate_number (cond a (told_paired (slot_of h P j) table) (told_by b c table)).fate)
    go true b c = is_paired
    go false true c = is_weak_lem
    go false false true = is_full
    go false false false = is_started

pub fate_of_each : (h : Handed) (P : List ℕ) (table : List (List ℕ)) (j : ℕ) → j < length h.batch → Fate (get_or (fates_of h P table) j 0)
unfolding fates_of report_numbers
fate_of_each h P table j l = rw (told_at (after_report h P) (fate_out h P) (length h.batch) (λ j. j) table j 0 l) (told_fate h P j (table_at h P j table))

four_once : (f : ℕ) → Fate f → cond (eqb paired f) 1 0 + cond (eqb started f) 1 0 + cond (eqb weak f) 1 0 + cond (eqb full f) 1 0 ≡ 1
four_once f is_paired = refl
four_once f is_started = refl
four_once f is_weak_lem = refl
four_once f is_full = refl

all_counted : (fs : List ℕ) → ((j : ℕ) → j < length fs → Fate (get_or fs j 0)) → count_of paired fs + count_of started fs + count_of weak fs + count_of full fs ≡ length fs
unfolding count_of
all_counted [] w = omega (arith, count_none (eqb paired), count_none (eqb started), count_none (eqb weak), count_none (eqb full))
all_counted (f ∷ fs) w =
    omega (arith, count_cons (eqb paired) f fs, count_cons (eqb started) f fs, count_cons (eqb weak) f fs, count_cons (eqb full) f fs, four_once f (w 0 (omega arith)), all_counted fs (λ j l. w (suc j) (omega arith)))

-- every report has one of the four fates, and the four counts account for every report
pub record OneFate (reports : ℕ) (fates : List ℕ) : Type 0 where
  pub each : (j : ℕ) → j < reports → Fate (get_or fates j 0)
  pub all : count_of paired fates + count_of started fates + count_of weak fates + count_of full fates ≡ reports

pub one_fate : (h : Handed) (P : List ℕ) (table : List (List ℕ)) → OneFate (length h.batch) (fates_of h P table)
one_fate h P table = record {
  each = fate_of_each h P table;
  all = all_counted (fates_of h P table) (λ j l. fate_of_each h P table j (rw (length_fates h P table) at l)) ∙ length_fates h P table;
}

-- ---- shown

told_shown : (h : Handed) (P : List ℕ) (j : ℕ) (table : List (List ℕ)) → shown_out h P j table ≡ cond (ltb (owner_of P j) (length P)) (shown_mark (get_or table (slot_of h P j) [])) 0
unfolding told_of told_paired told_unpaired shown_mark
told_shown h P j table = go (ltb (owner_of P j) (length P)) (is_weak (report_of (get_or h.batch j []))) (leb (length table) (free_slot table))
  where
    go : (a b c : Bool) → mark (cond a (told_paired (slot_of h P j) table) (told_by b c table)).shown ≡ cond a (shown_mark (get_or table (slot_of h P j) [])) 0
    go true b c = refl
    go false true c = refl
    go false false true = refl
    go false false false = refl

module _ (h : Handed) (P : List ℕ) (table : List (List ℕ)) (j : ℕ) (here : j < length h.batch) where
  -- the pairing left a track in the slot of a paired report
  abbrev pub TrackThere : Type 0
  TrackThere = owner_of P j < length P → is_free (get_or table (slot_of h P j) []) ≡ false

  -- the shown mark depends on the table as pairing left it: no report before this one touched the slot
  pub shown_at_lem : TrackThere → get_or (shown_of h P table) j 0 ≡ cond (ltb (owner_of P j) (length P)) (shown_mark (get_or table (slot_of h P j) [])) 0
  unfolding shown_of report_numbers
  shown_at_lem there =
      told_at (after_report h P) (shown_out h P) (length h.batch) (λ j. j) table j 0 here
      ∙ told_shown h P j (table_at h P j table)
      ∙ go (ltb (owner_of P j) (length P)) refl
    where
      go : (b : Bool) → ltb (owner_of P j) (length P) ≡ b → cond b (shown_mark (get_or (table_at h P j table) (slot_of h P j) [])) 0 ≡ cond b (shown_mark (get_or table (slot_of h P j) [])) 0
      go true e = rw (held_at h P j table (slot_of h P j) (there (ltb-true (owner_of P j) (length P) e)))
      go false e = refl
