-- Each slot after a served call: updated, coasted, dropped, as it was, or with a new track.
use Prim.Native.Nat.{ℕ, zero, suc, ◌+◌, ◌≤◌, ◌<◌}
use mathlib.Core.Path.{◌≡◌, refl, sym, ap, ◌∙◌}
use mathlib.Core.Bool.{Bool, true, false}
use mathlib.Core.List.{List, []}
use mathlib.Core.Logic.{◌⊎◌, inl, inr, ⊎_elim}
use native.Mathlib.Nat.{le_refl, le_of_suc-le-suc, not-suc-le-zero}
use native.Mathlib.Omega.{arith}
use borrow.Author.Tests.{leb-false, eq-eqb}
use lib.Dec.{leb, ltb}
use lib.ListN.{length, get_or, set}
use lib.Seq.{get_or-set_same, get_or-set_other}
use Rattle.laws.specs.Lists.{at, after_all, listed}
use Rattle.laws.proofs.Rounds.{all_keep}
use Rattle.laws.proofs.Search.{first_found}
use Rattle.laws.proofs.Stores.{same_or}
use Rattle.laws.proofs.Tests.{clash}
use Rattle.records.specs.declared.Track.{Track}
use Rattle.records.specs.Fields.{free, allowance, is_weak}
use Rattle.records.specs.Bytes.{freed, mark_at, bytes_of, report_of, is_free}
use Rattle.records.proofs.Checked.{free_slot_not_due}
use Rattle.settling.specs.Settle.{updated_of, coasted_of, started_of}
use Rattle.settling.proofs.HandedOn.{coasted_keeps, coasted_drops}
use Rattle.matching.specs.Pairing.{none, HasReport}
use Rattle.intake.specs.Refusals.{Input}
use Rattle.scoresheet.specs.Cells.{tracks_of, reports_of, due_slot, due_track}
use Rattle.scoresheet.proofs.Due.{due_lies, due_is_due}
use Rattle.walk.specs.Table.{missed_slot, aged_slot, settled_slot, settled_table}
use Rattle.walk.proofs.Slots.{missed_kept, missed_dropped}
use Rattle.walk.proofs.Settled.{settled_length, settled_at}
use Rattle.fates.specs.Fates.{started, fate_number, Handed, free_slot, owner_of, told_paired, told_unpaired, told_of, after_unpaired, after_report, report_numbers, started_table}
use Rattle.fates.proofs.Telling.{fate_out, slot_out}
use Rattle.fates.proofs.Starts.{report_keeps, table_at, length_at, start_elsewhere, held_at, held_slots_kept, new_slot}
use Rattle.sector.specs.declared.Counts.{Counts}
use Rattle.sector.specs.Serve.{Lent, reports_in, after_of, ServedWith}
use Rattle.promises.specs.Words.{fate_at, told_slot_at, StartedThere, LeftOrStarted}
use Rattle.promises.proofs.Reports.{rank_is, settled_due, fate_is, slot_is, updated_held}

-- ---- as pairing leaves a slot

coasted_not_free : (t : Track) (s : ℕ) → is_free (bytes_of (coasted_of t s)) ≡ false
unfolding bytes_of coasted_of
coasted_not_free t s = refl

lies : (i : Input) (rank : ℕ) → rank < tracks_of i → due_slot i rank < length i.table
unfolding tracks_of
lies i rank h = due_lies i rank h

in_batch : (i : Input) (j : ℕ) → j < reports_of i → j < length i.batch
unfolding reports_of
in_batch i j h = h

module _ (i : Input) (P : List ℕ) where
  -- the slot of a due track without a pair
  missed_due : (rank : ℕ) → rank < tracks_of i → at P rank ≡ none → get_or (settled_table i P) (due_slot i rank) [] ≡ missed_slot i.sector (get_or i.table (due_slot i rank) [])
  unfolding tracks_of settled_slot
  missed_due rank h e = settled_at i P (due_slot i rank) (due_lies i rank h) ∙ rw (due_is_due i rank h, rank_is i rank h, eq-eqb (at P rank) none e)

  -- a free slot
  settled_free : (k : ℕ) → k < length i.table → at (get_or i.table k []) mark_at ≡ free → get_or (settled_table i P) k [] ≡ get_or i.table k []
  unfolding settled_slot aged_slot
  settled_free k h m = settled_at i P k h ∙ rw (free_slot_not_due (get_or i.table k []) m, m)

-- ---- one report

new_not_free : (h : Handed) (j : ℕ) → is_free (new_slot h j) ≡ false
unfolding bytes_of started_of
new_not_free h j = refl

-- the lowest free slot is free
free_found : (table : List (List ℕ)) → free_slot table < length table → is_free (get_or table (free_slot table) []) ≡ true
unfolding free_slot
free_found table l = first_found is_free table [] l

module _ (h : Handed) (P : List ℕ) (j : ℕ) (table : List (List ℕ)) where
  record Start : Type 0 where
    pub room : free_slot table < length table
    pub fate : fate_out h P j table ≡ started
    pub slot : slot_out h P j table ≡ free_slot table
    pub after : after_report h P j table ≡ set table (free_slot table) (new_slot h j)

  record NoStart : Type 0 where
    pub fate : fate_out h P j table ≡ started → ⊥
    pub after : after_report h P j table ≡ table

  -- a report starts a track in the lowest free slot, or is told another fate and leaves the table as it is
  starts_or_not : Start ⊎ NoStart
  unfolding told_of told_paired told_unpaired after_report after_unpaired fate_number
  starts_or_not = go (ltb (owner_of P j) (length P)) refl (is_weak (report_of (get_or h.batch j []))) refl (leb (length table) (free_slot table)) refl
    where
      go : (a : Bool) → ltb (owner_of P j) (length P) ≡ a → (b : Bool) → is_weak (report_of (get_or h.batch j [])) ≡ b → (c : Bool) → leb (length table) (free_slot table) ≡ c → Start ⊎ NoStart
      go true p b q c r = inr (record { fate = rw p (λ e. omega arith); after = rw p })
      go false p true q c r = inr (record { fate = rw (p, q) (λ e. omega arith); after = rw (p, q) })
      go false p false q true r = inr (record { fate = rw (p, q, r) (λ e. omega arith); after = rw (p, q, r) })
      go false p false q false r = inl (record { room = leb-false _ _ r; fate = rw (p, q, r); slot = rw (p, q, r); after = rw (p, q, r) })

-- ---- all reports, one after another

module _ {B S : Type 0} (step : B → S → S) where
  last_step : (n : ℕ) (f : ℕ → B) (s : S) → after_all step (listed (suc n) f) s ≡ step (f n) (after_all step (listed n f) s)
  unfolding after_all
  last_step zero f s = refl
  last_step (suc n) f s = last_step n (λ k. f (suc k)) (step (f 0) s)

  -- what holds after step j, and is kept by every step, holds after all
  keep_from : (Q : S → Type 0) → ((b : B) (t : S) → Q t → Q (step b t)) → (n : ℕ) (f : ℕ → B) (s : S) (j : ℕ) → j < n → Q (step (f j) (after_all step (listed j f) s)) → Q (after_all step (listed n f) s)
  unfolding after_all
  keep_from Q keeps zero f s j l q = absurd (not-suc-le-zero l)
  keep_from Q keeps (suc n) f s zero l q = all_keep step Q n (λ k. f (suc k)) (step (f 0) s) (λ k t m. keeps (f (suc k)) t) q
  keep_from Q keeps (suc n) f s (suc j) l q = keep_from Q keeps n (λ k. f (suc k)) (step (f 0) s) j (le_of_suc-le-suc l) q

-- the track that report j starts is there when all reports are told
start_stays : (h : Handed) (P : List ℕ) (table : List (List ℕ)) (j : ℕ) → j < length h.batch → Start h P j (table_at h P j table) → get_or (started_table h P table) (free_slot (table_at h P j table)) [] ≡ new_slot h j
unfolding started_table report_numbers
start_stays h P table j here w =
    keep_from (after_report h P) Q
    (λ n t q. report_keeps Q h P n t q (start_elsewhere t k _ (rw q (new_not_free h j)) ∙ q))
    (length h.batch) (λ n. n) table j here
    (rw w.after (get_or-set_same (table_at h P j table) k (new_slot h j) [] w.room))
  where
    k : ℕ
    k = free_slot (table_at h P j table)

    Q : List (List ℕ) → Type 0
    Q t = get_or t k [] ≡ new_slot h j

module _ (i : Input) (P : List ℕ) (k : ℕ) (l : k < length i.table) where
  -- the table as report n finds it
  abbrev met : ℕ → List (List ℕ)
  met n = table_at (reports_in i) P n (settled_table i P)

  -- slot k, in some table
  abbrev So : List (List ℕ) → Type 0
  So table = LeftOrStarted i P k (get_or (settled_table i P) k []) (get_or table k [])

  step : (n : ℕ) → n < reports_of i → So (met n) → So (after_report (reports_in i) P n (met n))
  step n b before = ⊎_elim starts (λ w. rw w.after before) (starts_or_not (reports_in i) P n (met n))
    where
      here_now : Start (reports_in i) P n (met n) → k ≡ free_slot (met n) → StartedThere i P n k (get_or (set (met n) (free_slot (met n)) (new_slot (reports_in i) n)) k [])
      here_now w e =
          let f : is_free (get_or (met n) k []) ≡ true = rw e (free_found (met n) w.room) in
          record {
            here = b;
            lies = l;
            fate = fate_is i P n b ∙ w.fate;
            told = slot_is i P n b ∙ w.slot ∙ sym e;
            found_free = ⊎_elim (λ q. rw (← q) f) (λ q. absurd (clash f (rw q.1.holds (new_not_free (reports_in i) q.0)))) before;
            holds = rw (← e) (get_or-set_same (met n) k (new_slot (reports_in i) n) [] (rw (length_at (reports_in i) P n (settled_table i P), settled_length i P) l));
          }

      starts : Start (reports_in i) P n (met n) → So (after_report (reports_in i) P n (met n))
      starts w =
          rw w.after
          (⊎_elim (λ e. inr (n, here_now w e)) (λ d. rw (get_or-set_other (met n) (free_slot (met n)) k (new_slot (reports_in i) n) [] d) before) (same_or k (free_slot (met n))))

  upto : (n : ℕ) → n ≤ reports_of i → So (met n)
  unfolding after_all
  upto zero b = inl refl
  upto (suc n) b = rw (last_step (after_report (reports_in i) P) n (λ j. j) (settled_table i P)) (step n b (upto n (omega arith)))

-- ---- the table that a served call leaves

module _ (i : Input) (l l' : Lent) (counts : Counts) (s : ServedWith i l l' counts) where
  abbrev P : List ℕ
  P = s.chosen.pairing

  -- the slot as the reports left it
  pub left_slot : (k : ℕ) → get_or l'.table k [] ≡ get_or (started_table (reports_in i) P (settled_table i P)) k []
  unfolding after_of
  left_slot k = ap (λ (x : Lent). get_or x.table k []) s.left

  -- Every slot is as pairing left it, or, where that was free, holds a track that some report started and is told.
  pub slot_after : (k : ℕ) → k < length i.table → LeftOrStarted i P k (get_or (settled_table i P) k []) (get_or l'.table k [])
  unfolding started_table report_numbers reports_of
  slot_after k h = rw (left_slot k) (upto i P k h (reports_of i) (le_refl _))

  -- a track that pairing left stays
  pub kept : (k : ℕ) → is_free (get_or (settled_table i P) k []) ≡ false → get_or l'.table k [] ≡ get_or (settled_table i P) k []
  kept k f = left_slot k ∙ held_slots_kept (reports_in i) P (settled_table i P) k f

  -- A due track with a pair: its slot holds it, updated by its report.
  pub paired_slot_after : (rank : ℕ) → rank < tracks_of i → HasReport (at P) rank → get_or l'.table (due_slot i rank) [] ≡ bytes_of (updated_of (due_track i rank) (report_of (get_or i.batch (at P rank) [])) i.sector)
  paired_slot_after rank h p =
      let e = settled_due i P rank h p in
      kept (due_slot i rank) (rw e (updated_held _ _ _)) ∙ e

  -- A due track without a pair that may miss once more: its slot holds it, coasted.
  pub coasted_slot_after : (rank : ℕ) → rank < tracks_of i → at P rank ≡ none → (due_track i rank).misses + 1 ≤ allowance (due_track i rank).updates → get_or l'.table (due_slot i rank) [] ≡ bytes_of (coasted_of (due_track i rank) i.sector)
  coasted_slot_after rank h e a =
      let m : get_or (settled_table i P) (due_slot i rank) [] ≡ bytes_of (coasted_of (due_track i rank) i.sector) =
      missed_due i P rank h e ∙ missed_kept i.sector (get_or i.table (due_slot i rank) []) _ (coasted_keeps (due_track i rank) i.sector a) in
      kept (due_slot i rank) (rw m (coasted_not_free _ _)) ∙ m

  -- Another is dropped: its slot is all zero, or holds a track that some report started there.
  pub dropped_slot_after : (rank : ℕ) → rank < tracks_of i → at P rank ≡ none → allowance (due_track i rank).updates < (due_track i rank).misses + 1 → LeftOrStarted i P (due_slot i rank) freed (get_or l'.table (due_slot i rank) [])
  dropped_slot_after rank h e a =
      rw (missed_due i P rank h e, missed_dropped i.sector (get_or i.table (due_slot i rank) []) (coasted_drops (due_track i rank) i.sector a))
      at (slot_after (due_slot i rank) (lies i rank h))

  -- A free slot keeps its bytes, or holds a track that some report started there.
  pub free_slot_after : (k : ℕ) → k < length i.table → at (get_or i.table k []) mark_at ≡ free → LeftOrStarted i P k (get_or i.table k []) (get_or l'.table k [])
  free_slot_after k h m = rw (settled_free i P k h m) at (slot_after k h)

  -- So its bytes change only when a track starts there: free before and after, they are the same.
  pub free_slot_kept : (k : ℕ) → k < length i.table → at (get_or i.table k []) mark_at ≡ free → at (get_or l'.table k []) mark_at ≡ free → get_or l'.table k [] ≡ get_or i.table k []
  free_slot_kept k h m a =
      ⊎_elim (λ e. e) (λ w. absurd (clash (eq-eqb _ free a) (rw w.1.holds (new_not_free (reports_in i) w.0)))) (free_slot_after k h m)

  -- A report that is told started: the track in its slot is its own.
  pub started_slot_after : (j : ℕ) → j < reports_of i → fate_at i P j ≡ started → StartedThere i P j (told_slot_at i P j) (get_or l'.table (told_slot_at i P j) [])
  started_slot_after j b e = ⊎_elim starts (λ w. absurd (w.fate (sym (fate_is i P j b) ∙ e))) (starts_or_not (reports_in i) P j found)
    where
      found : List (List ℕ)
      found = table_at (reports_in i) P j (settled_table i P)

      was_free : (f : Bool) → is_free (get_or (settled_table i P) (free_slot found) []) ≡ f → Start (reports_in i) P j found → f ≡ true
      was_free true q w = refl
      was_free false q w = absurd (clash (free_found found w.room) (rw (held_at (reports_in i) P j (settled_table i P) (free_slot found) q) q))

      stays : Start (reports_in i) P j found → get_or (started_table (reports_in i) P (settled_table i P)) (free_slot found) [] ≡ new_slot (reports_in i) j
      stays w = start_stays (reports_in i) P (settled_table i P) j (in_batch i j b) w

      starts : Start (reports_in i) P j found → StartedThere i P j (told_slot_at i P j) (get_or l'.table (told_slot_at i P j) [])
      starts w =
          let k : told_slot_at i P j ≡ free_slot found = slot_is i P j b ∙ w.slot in
          record {
            here = b;
            lies = rw (k, ← settled_length i P, ← length_at (reports_in i) P j (settled_table i P)) w.room;
            fate = e;
            told = refl;
            found_free = rw k (was_free (is_free (get_or (settled_table i P) (free_slot found) [])) refl w);
            holds = rw k (left_slot (free_slot found) ∙ stays w);
          }
