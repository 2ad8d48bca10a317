-- What a served call tells its reports: who is paired with whom, in which slot, and who is shown.
use Prim.Native.Nat.{ℕ, ◌+◌, ◌≤◌, ◌<◌, min}
use mathlib.Core.Path.{◌≡◌, refl, sym, ap, ◌∙◌}
use mathlib.Core.Logic.{⊎_elim}
use mathlib.Core.Bool.{Bool, true, false, cond}
use mathlib.Core.List.{List, []}
use native.Mathlib.Omega.{arith}
use borrow.Author.Tests.{lt-ltb, le-ltb, eqb-true, eq-eqb, ne_eqb, le-leb, lt-leb}
use lib.Dec.{eqb, leb, ltb}
use lib.ListN.{length, get_or}
use Rattle.laws.specs.Lists.{at, first_index}
use Rattle.laws.proofs.Search.{first_before, first_found}
use Rattle.laws.proofs.Stores.{le_or_lt}
use Rattle.laws.proofs.Tests.{clash}
use Rattle.records.specs.declared.Track.{Track}
use Rattle.records.specs.declared.Report.{Report}
use Rattle.records.specs.Fields.{is_weak}
use Rattle.records.specs.Bytes.{track_of, bytes_of, report_of, slot_due, is_free}
use Rattle.settling.specs.Settle.{updated_of, updates_most}
use Rattle.settling.proofs.HandedOn.{updated_updates}
use Rattle.matching.specs.Pairing.{none, HasReport}
use Rattle.intake.specs.Refusals.{Input, due_slots}
use Rattle.scoresheet.specs.Cells.{tracks_of, reports_of, due_slot, due_track}
use Rattle.scoresheet.proofs.Due.{due_lies, due_is_due}
use Rattle.laws.proofs.Places.{rising}
use Rattle.walk.specs.Table.{paired_slot, settled_slot, settled_table}
use Rattle.walk.proofs.Settled.{rank_of, due_at_rank, settled_at}
use Rattle.fates.specs.Fates.{paired, shown_from, fate_number, is_shown, Handed, free_slot, owner_of, shown_mark, slot_of, told_paired, told_by, told_unpaired, told_of, after_report, report_numbers, fates_of, slots_of}
use Rattle.laws.proofs.Rounds.{told_at}
use Rattle.fates.proofs.Telling.{fate_out, slot_out}
use Rattle.fates.proofs.Starts.{table_at}
use Rattle.fates.proofs.Answers.{shown_at_lem}
use Rattle.sector.specs.Serve.{Chosen, Choice, reports_in, fates_in}
use Rattle.promises.specs.Words.{fate_at, told_slot_at, shown_at, updates_before, PairedWithOld, ToldPaired, ShownExactlyWhen}
use Rattle.promises.proofs.Pairings.{few_reports, one_to_one}

-- ---- due tracks have slots of their own

-- Two due tracks in one slot are the same track.
pub due_slots_differ : (i : Input) (rank other : ℕ) → rank < tracks_of i → other < tracks_of i → due_slot i rank ≡ due_slot i other → rank ≡ other
unfolding tracks_of due_slots
due_slots_differ i rank other a b e =
    ⊎_elim
    (λ l. ⊎_elim (λ m. omega arith) (λ m. absurd (omega (arith, rising slot_due 0 i.table [] rank other m b))) (le_or_lt other rank))
    (λ l. absurd (omega (arith, rising slot_due 0 i.table [] other rank l a)))
    (le_or_lt rank other)

-- a due track's slot has its rank
pub rank_is : (i : Input) (rank : ℕ) → rank < tracks_of i → rank_of i.table (due_slot i rank) ≡ rank
unfolding tracks_of
rank_is i rank l =
    let w = due_at_rank i (due_slot i rank) (due_lies i rank l) (due_is_due i rank l) in
    due_slots_differ i (rank_of i.table (due_slot i rank)) rank w.0 l w.1

-- a due track's slot after pairing, where it has a report
pub settled_due : (i : Input) (P : List ℕ) (rank : ℕ) → rank < tracks_of i → HasReport (at P) rank → get_or (settled_table i P) (due_slot i rank) [] ≡ bytes_of (updated_of (due_track i rank) (report_of (get_or i.batch (at P rank) [])) i.sector)
unfolding tracks_of settled_slot paired_slot
settled_due i P rank l p =
    settled_at i P (due_slot i rank) (due_lies i rank l)
    ∙ rw (due_is_due i rank l, rank_is i rank l, ne_eqb (at P rank) none p)

-- ---- who has a report

-- the rank that the pairing has report j at names it
pub owner_has : (P : List ℕ) (j : ℕ) → owner_of P j < length P → at P (owner_of P j) ≡ j
unfolding owner_of
owner_has P j l = sym (eqb-true j _ (first_found (eqb j) P 0 l))

-- and where some rank names it, there is such a rank
pub owner_there : (P : List ℕ) (j rank : ℕ) → rank < length P → at P rank ≡ j → owner_of P j < length P
unfolding owner_of
owner_there P j rank l e =
    ⊎_elim
    (λ m. absurd (clash (eq-eqb j (at P rank) (sym e)) (first_before (eqb j) P 0 rank (omega arith))))
    (λ m. m)
    (le_or_lt (length P) (first_index (eqb j) P))

-- ---- what one report is told

told_paired_lem : (h : Handed) (P : List ℕ) (j : ℕ) (table : List (List ℕ)) → owner_of P j < length P → (fate_out h P j table ≡ paired) × (slot_out h P j table ≡ slot_of h P j)
unfolding told_of told_paired fate_number
told_paired_lem h P j table l = rw (lt-ltb (owner_of P j) (length P) l) (refl, refl)

told_unpaired_lem : (h : Handed) (P : List ℕ) (j : ℕ) (table : List (List ℕ)) → length P ≤ owner_of P j → fate_out h P j table ≡ paired → ⊥
unfolding told_of told_unpaired fate_number
told_unpaired_lem h P j table l = rw (le-ltb (owner_of P j) (length P) l) (go (is_weak (report_of (get_or h.batch j []))) (leb (length table) (free_slot table)))
  where
    go : (b c : Bool) → fate_number (told_by b c table).fate ≡ paired → ⊥
    go true c e = omega arith
    go false true e = omega arith
    go false false e = omega arith

module _ (i : Input) (P : List ℕ) (j : ℕ) (here : j < reports_of i) where
  pub fate_is : fate_at i P j ≡ fate_out (reports_in i) P j (table_at (reports_in i) P j (settled_table i P))
  unfolding fates_in fates_of report_numbers reports_of
  fate_is = told_at (after_report (reports_in i) P) (fate_out (reports_in i) P) (length i.batch) (λ k. k) (settled_table i P) j 0 here

  pub slot_is : told_slot_at i P j ≡ slot_out (reports_in i) P j (table_at (reports_in i) P j (settled_table i P))
  unfolding slots_of report_numbers reports_of
  slot_is = told_at (after_report (reports_in i) P) (slot_out (reports_in i) P) (length i.batch) (λ k. k) (settled_table i P) j 0 here

  -- told paired: some rank of the pairing names the report
  pub paired_when : owner_of P j < length P → fate_at i P j ≡ paired
  paired_when l = fate_is ∙ (told_paired_lem (reports_in i) P j _ l).0

  pub paired_only : fate_at i P j ≡ paired → owner_of P j < length P
  paired_only e =
      ⊎_elim (λ m. absurd (told_unpaired_lem (reports_in i) P j _ m (sym fate_is ∙ e))) (λ m. m) (le_or_lt (length P) (owner_of P j))

  -- and the slot is that of the due track of that rank
  pub paired_slot_lem : owner_of P j < length P → told_slot_at i P j ≡ due_slot i (owner_of P j)
  unfolding slot_of
  paired_slot_lem l = slot_is ∙ (told_paired_lem (reports_in i) P j _ l).1

-- ---- a chosen pairing

module _ (i : Input) (c : Chosen) (h : Choice i c) (j : ℕ) (here : j < reports_of i) where
  abbrev owner : ℕ
  owner = owner_of c.pairing j

  pub owner_due : owner < length c.pairing → owner < tracks_of i
  owner_due l = omega (arith, h.number_each)

  pub named_is_paired : (rank : ℕ) → at c.pairing rank ≡ j → HasReport (at c.pairing) rank
  named_is_paired rank e z = omega (arith, few_reports i c h)

  -- the rank that names report j is the only one
  owner_is : (rank : ℕ) → rank < tracks_of i → at c.pairing rank ≡ j → (owner < length c.pairing) × (owner ≡ rank)
  owner_is rank l e =
      let o : owner < length c.pairing = owner_there c.pairing j rank (rw h.number_each l) e in
      let w : at c.pairing owner ≡ j = owner_has c.pairing j o in
      (o, one_to_one i c h owner rank (owner_due o) l (named_is_paired owner w) (w ∙ sym e))

  -- The pairing can be read off the answer: the due track of a rank has report j exactly when report j is told paired, in that track's slot.
  pub pairing_is_read_off : (rank : ℕ) → rank < tracks_of i → (at c.pairing rank ≡ j → ToldPaired i c.pairing j rank) × (ToldPaired i c.pairing j rank → at c.pairing rank ≡ j)
  pairing_is_read_off rank l = (said, read)
    where
      said : at c.pairing rank ≡ j → ToldPaired i c.pairing j rank
      said e =
          let o = owner_is rank l e in
          record { fate = paired_when i c.pairing j here o.0; slot = paired_slot_lem i c.pairing j here o.0 ∙ ap (due_slot i) o.1 }

      read : ToldPaired i c.pairing j rank → at c.pairing rank ≡ j
      read t =
          let o : owner < length c.pairing = paired_only i c.pairing j here t.fate in
          let e : owner ≡ rank = due_slots_differ i owner rank (owner_due o) l (sym (paired_slot_lem i c.pairing j here o) ∙ t.slot) in
          rw e at (owner_has c.pairing j o)

-- One to one, in the answer's words: two reports that are told paired with the same slot are the same report.
pub one_slot_one_report : (i : Input) (c : Chosen) → Choice i c → (j k : ℕ) → j < reports_of i → k < reports_of i → fate_at i c.pairing j ≡ paired → fate_at i c.pairing k ≡ paired → told_slot_at i c.pairing j ≡ told_slot_at i c.pairing k → j ≡ k
one_slot_one_report i c h j k a b f g e =
    let oj : owner_of c.pairing j < length c.pairing = paired_only i c.pairing j a f in
    let ok : owner_of c.pairing k < length c.pairing = paired_only i c.pairing k b g in
    let s : owner_of c.pairing j ≡ owner_of c.pairing k =
    due_slots_differ i (owner_of c.pairing j) (owner_of c.pairing k) (omega (arith, h.number_each)) (omega (arith, h.number_each))
    (sym (paired_slot_lem i c.pairing j a oj) ∙ e ∙ paired_slot_lem i c.pairing k b ok) in
    sym (owner_has c.pairing j oj) ∙ ap (at c.pairing) s ∙ owner_has c.pairing k ok

-- ---- shown

-- a slot that a pair settled is not free, and its track is shown from its third update on
pub updated_held : (t : Track) (p : Report) (s : ℕ) → is_free (bytes_of (updated_of t p s)) ≡ false
unfolding bytes_of updated_of
updated_held t p s = refl

bytes_updates : (t : Track) → (track_of (bytes_of t)).updates ≡ t.updates
unfolding track_of bytes_of
bytes_updates t = refl

updated_shown : (t : Track) (p : Report) (s : ℕ) → shown_mark (bytes_of (updated_of t p s)) ≡ cond (leb updates_before t.updates) 1 0
unfolding shown_mark is_shown
updated_shown t p s =
    rw (bytes_updates (updated_of t p s), updated_updates t p s)
    (⊎_elim
    (λ l. rw (le-leb updates_before t.updates l, le-leb shown_from (min (t.updates + 1) updates_most) (omega arith)))
    (λ l. rw (lt-leb updates_before t.updates l, lt-leb shown_from (min (t.updates + 1) updates_most) (omega arith)))
    (le_or_lt updates_before t.updates))

module _ (i : Input) (c : Chosen) (h : Choice i c) (j : ℕ) (here : j < reports_of i) where
  owner_slot : owner_of c.pairing j < length c.pairing → get_or (settled_table i c.pairing) (slot_of (reports_in i) c.pairing j) [] ≡ bytes_of (updated_of (due_track i (owner_of c.pairing j)) (report_of (get_or i.batch (at c.pairing (owner_of c.pairing j)) [])) i.sector)
  unfolding slot_of
  owner_slot l = settled_due i c.pairing (owner_of c.pairing j) (owner_due i c h j here l) (named_is_paired i c h j here (owner_of c.pairing j) (owner_has c.pairing j l))

  shown_is : shown_at i c.pairing j ≡ cond (ltb (owner_of c.pairing j) (length c.pairing)) (shown_mark (get_or (settled_table i c.pairing) (slot_of (reports_in i) c.pairing j) [])) 0
  unfolding reports_of
  shown_is = shown_at_lem (reports_in i) c.pairing (settled_table i c.pairing) j here (λ l. rw (owner_slot l) (updated_held _ _ _))

  shown_unpaired : length c.pairing ≤ owner_of c.pairing j → shown_at i c.pairing j ≡ 0
  shown_unpaired l = shown_is ∙ rw (le-ltb (owner_of c.pairing j) (length c.pairing) l)

  shown_paired : owner_of c.pairing j < length c.pairing → shown_at i c.pairing j ≡ cond (leb updates_before (due_track i (owner_of c.pairing j)).updates) 1 0
  shown_paired l = shown_is ∙ rw (lt-ltb (owner_of c.pairing j) (length c.pairing) l, owner_slot l) (updated_shown _ _ _)

  -- A report is shown exactly when it is paired with a due track that had two updates or more; another is told 0.
  pub shown_exactly_when : ShownExactlyWhen i c.pairing j
  shown_exactly_when =
      ⊎_elim
      (λ l. record {
        only = λ e. absurd (omega (arith, shown_unpaired l));
        when = λ w. absurd (omega (arith, (owner_is i c h j here w.rank w.due w.has).0));
        otherwise = λ n. shown_unpaired l;
      })
      (λ l. ⊎_elim (old l) (young l) (le_or_lt updates_before (due_track i (owner_of c.pairing j)).updates))
      (le_or_lt (length c.pairing) (owner_of c.pairing j))
    where
      old : owner_of c.pairing j < length c.pairing → updates_before ≤ (due_track i (owner_of c.pairing j)).updates → ShownExactlyWhen i c.pairing j
      old l u =
          let e : shown_at i c.pairing j ≡ 1 = shown_paired l ∙ rw (le-leb updates_before (due_track i (owner_of c.pairing j)).updates u) in
          let w : PairedWithOld i c.pairing j = record { rank = owner_of c.pairing j; due = owner_due i c h j here l; has = owner_has c.pairing j l; old = u } in
          record { only = λ q. w; when = λ q. e; otherwise = λ n. absurd (n w) }

      young : owner_of c.pairing j < length c.pairing → (due_track i (owner_of c.pairing j)).updates < updates_before → ShownExactlyWhen i c.pairing j
      young l u =
          let e : shown_at i c.pairing j ≡ 0 = shown_paired l ∙ rw (lt-leb updates_before (due_track i (owner_of c.pairing j)).updates u) in
          record {
            only = λ q. absurd (omega arith);
            when = λ w.
                let o : owner_of c.pairing j ≡ w.rank = (owner_is i c h j here w.rank w.due w.has).1 in
                absurd (omega (arith, rw (← o) at w.old));
            otherwise = λ n. e;
          }
