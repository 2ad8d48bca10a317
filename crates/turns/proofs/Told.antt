-- A track that a call updated, coasted or started: its slot's bytes after the call, and that it was served in it.
use Prim.Native.Nat.{ℕ, ◌+◌, ◌≤◌, ◌<◌}
use mathlib.Core.Path.{◌≡◌, refl, sym, ◌∙◌}
use mathlib.Core.Bool.{Bool, true, false}
use mathlib.Core.List.{List, []}
use lib.ListN.{length, get_or}
use Rattle.laws.proofs.Tests.{clash}
use Rattle.records.specs.declared.Track.{Track}
use Rattle.records.specs.Fields.{held, allowance}
use Rattle.laws.specs.Lists.{at}
use Rattle.records.specs.Bytes.{mark_at, track_of, bytes_of, report_of, slot_due, is_free}
use Rattle.settling.specs.Settle.{updated_of, coasted_of, started_of}
use Rattle.matching.specs.Pairing.{none, HasReport}
use Rattle.intake.specs.Refusals.{Input}
use Rattle.scoresheet.specs.Cells.{tracks_of, reports_of, due_slot, due_track}
use Rattle.scoresheet.proofs.Due.{due_lies, due_is_due}
use Rattle.walk.specs.Table.{aged_slot, settled_table}
use Rattle.walk.proofs.Settled.{rank_of, settled_at}
use Rattle.fates.specs.Fates.{paired, started, owner_of}
use Rattle.records.proofs.Packed.{mark_packed}
use Rattle.sector.specs.declared.Counts.{Counts}
use Rattle.sector.specs.Serve.{Lent, input_of}
use Rattle.promises.specs.Words as words
use Rattle.promises.proofs.Answers.{answers_are_told}
use Rattle.promises.proofs.Reports.{owner_has, owner_due, named_is_paired, paired_only, paired_slot_lem}
use Rattle.promises.proofs.Slots.{paired_slot_after, coasted_slot_after, started_slot_after}
use Rattle.turns.specs.Calls.{Accepted, slot_at, ServedIn, ServedTo, HasTrack, by_pair, by_start}
use Rattle.turns.proofs.Table.{outcome}
use Rattle.turns.proofs.Slot.{held_not_free, aged_held, not_due_ages}

module _ {l l' : Lent} (a : Accepted l l') where
  abbrev i : Input
  i = input_of l a.site a.batch

  abbrev counts : Counts
  counts = a.promise.counts

  abbrev P : List ℕ
  P = (outcome a).chosen.pairing

  -- the slot of a due track, once it holds a track again
  due_served : (rank : ℕ) → rank < tracks_of i → (t : Track) → t.mark ≡ held → slot_at l' (due_slot i rank) ≡ bytes_of t → ServedTo t l l' (due_slot i rank)
  unfolding tracks_of
  due_served rank h t m e = record {
    served_in = record { lies = due_lies i rank h; held_mark = rw e (mark_packed t ∙ m); was_due = λ q. due_is_due i rank h };
    holds = e;
  }

  -- A due track with a pair is served, and its slot holds it as its report updates it.
  pub paired_served_in : (rank : ℕ) → rank < tracks_of i → HasReport (at P) rank → ServedTo (updated_of (due_track i rank) (report_of (get_or a.batch (at P rank) [])) l.sector) l l' (due_slot i rank)
  unfolding updated_of
  paired_served_in rank h p = due_served rank h _ refl (paired_slot_after i l l' counts (outcome a) rank h p)

  -- A due track without a pair that may miss once more is served, and its slot holds it coasted.
  pub coasted_served_in : (rank : ℕ) → rank < tracks_of i → at P rank ≡ none → (due_track i rank).misses + 1 ≤ allowance (due_track i rank).updates → ServedTo (coasted_of (due_track i rank) l.sector) l l' (due_slot i rank)
  unfolding coasted_of
  coasted_served_in rank h e m = due_served rank h _ refl (coasted_slot_after i l l' counts (outcome a) rank h e m)

  -- a slot that pairing left free held no waiting track
  none_waiting : (k : ℕ) → k < length l.table → is_free (get_or (settled_table i P) k []) ≡ true → at (slot_at l k) mark_at ≡ held → slot_due (slot_at l k) ≡ true
  none_waiting k h f m = go (slot_due (slot_at l k)) refl
    where
      go : (b : Bool) → slot_due (slot_at l k) ≡ b → b ≡ true
      go true d = refl
      go false d =
          let aged : get_or (settled_table i P) k [] ≡ aged_slot (slot_at l k) = settled_at i P k h ∙ not_due_ages l.sector a.batch P (slot_at l k) (rank_of l.table k) d in
          absurd (clash f (held_not_free (get_or (settled_table i P) k []) (rw aged (aged_held (slot_at l k) m))))

  module _ (j : ℕ) (here : j < length a.batch) where
    told : words.AnswersTold i (outcome a).chosen l' j
    unfolding reports_of
    told = answers_are_told i l l' counts (outcome a) j here

    -- A report that is told paired: the track in its slot was due, and is updated by it.
    pub told_paired_served : at l'.fates j ≡ paired → ServedTo (updated_of (track_of (slot_at l (at l'.slots j))) (report_of (get_or a.batch j [])) l.sector) l l' (at l'.slots j)
    unfolding reports_of
    told_paired_served e =
        let o : owner_of P j < length P = paired_only i P j here (sym told.fate ∙ e) in
        let mine : at P (owner_of P j) ≡ j = owner_has P j o in
        let k : at l'.slots j ≡ due_slot i (owner_of P j) = told.slot ∙ paired_slot_lem i P j here o in
        let s = paired_served_in (owner_of P j) (owner_due i (outcome a).chosen (outcome a).choice j here o) (named_is_paired i (outcome a).chosen (outcome a).choice j here (owner_of P j) mine) in
        rw k (rw mine at s)

    -- A report that is told started: its slot held no waiting track, and holds the new one.
    pub told_started_served : at l'.fates j ≡ started → ServedTo (started_of (report_of (get_or a.batch j [])) l.sector) l l' (at l'.slots j)
    unfolding reports_of started_of
    told_started_served e =
        let s = started_slot_after i l l' counts (outcome a) j here (sym told.fate ∙ e) in
        rw told.slot
        (record {
          served_in = record {
            lies = s.lies;
            held_mark = rw s.holds (mark_packed _);
            was_due = none_waiting _ s.lies s.found_free;
          };
          holds = s.holds;
        })

    -- A report that is told paired or started is told a slot, and the track there was served or started in the call.
    pub told_served : HasTrack (at l'.fates j) → ServedIn l l' (at l'.slots j)
    told_served f = by_fate f refl
      where
        by_fate : {fate : ℕ} → HasTrack fate → at l'.fates j ≡ fate → ServedIn l l' (at l'.slots j)
        by_fate by_pair e = (told_paired_served e).served_in
        by_fate by_start e = (told_started_served e).served_in
