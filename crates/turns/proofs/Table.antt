-- What a served call leaves is fit for the next call.
use Prim.Native.Nat.{ℕ, suc, ◌<◌}
use mathlib.Core.Path.{◌≡◌, sym, ◌∙◌}
use mathlib.Core.Bool.{Bool, true}
use mathlib.Core.List.{List, [], ◌∷◌}
use native.Mathlib.Nat.{le_of_eq}
use native.Mathlib.Omega.{arith}
use borrow.Author.Tests.{le-leb, lt-ltb}
use lib.ListN.{length, get_or}
use Rattle.laws.proofs.Search.{first_nowhere}
use Rattle.laws.proofs.Tests.{and_both, clash}
use Rattle.numbers.specs.Scales.{sectors}
use Rattle.numbers.specs.Sectors.{sector_of, next_sector}
use Rattle.numbers.proofs.SectorLaws.{next_lies}
use Rattle.records.specs.declared.Site.{Site}
use Rattle.records.specs.Fields.{track_fields}
use Rattle.records.specs.Bytes.{bad_slot_field, SlotsGood}
use Rattle.records.proofs.Checked.{sound}
use Rattle.matching.proofs.Theorems.{zero_certificate}
use Rattle.std.specs.Prelude.{Result, Err}
use Rattle.intake.specs.declared.Refusal.{Refusal}
use Rattle.intake.specs.Refusals.{Input, number, most_slots, slot_bad, none_of, demands, no_room, refusal_of, Ready}
use Rattle.intake.proofs.Readiness.{ready, fault_means, not_refused}
use Rattle.scoresheet.specs.Cells.{cells_of, tracks_of, reports_of}
use Rattle.walk.specs.Table.{settled_table}
use Rattle.walk.specs.Ready.{Names}
use Rattle.walk.proofs.Settled.{settled_length, settled_good}
use Rattle.fates.proofs.Starts.{GoodReports, started_length, started_good}
use Rattle.sector.specs.declared.Counts.{Counts}
use Rattle.sector.specs.Serve.{ServedWith, ServesSector, Lent, input_of, room_for, sector_refusal, Chosen, Choice, reports_in, after_of}
use Rattle.promises.proofs.Calls.{refused_exactly_when}
use Rattle.promises.proofs.Together.{by_fault}
use Rattle.turns.specs.Calls.{Accepted, HandsOn, LeftGood, OfTable, is_1, is_2, is_4}

-- a pairing that the check accepts names, for each due track, a report that is there or none
pub names : {i : Input} {c : Chosen} → Choice i c → Names i c.pairing
unfolding tracks_of reports_of
names {i} {c} q =
    let z = zero_certificate (tracks_of i) (reports_of i) (cells_of i) c.pairing c.prices c.discounts q.accepted in
    record { number_each = le_of_eq (sym q.number_each); there = z.1.valid.there }

-- the reports of a batch that is not refused; an azimuth that lies in a sector lies in the turn
pub good_reports : {i : Input} → Ready i → GoodReports (reports_in i)
unfolding sector_of
good_reports {i} r = record {
  sound = λ j h. sound _ (r.reports_good j h);
  azimuth_in = λ j h. omega (arith, r.reports_here j h, r.sector_in);
}

-- the table as pairing leaves it
settled_fit : {i : Input} {c : Chosen} → Ready i → Choice i c → SlotsGood (settled_table i c.pairing) (next_sector i.sector)
settled_fit {i} {c} r q = λ k h. settled_good i c.pairing r (names q) k (rw (settled_length i c.pairing) at h)

-- A served call leaves as many slots as it was lent, a sector below 32, and no slot with a bad field for that sector.
pub handed_on_good : (i : Input) (l : Lent) (c : Chosen) → Ready i → Choice i c → LeftGood (length i.table) (after_of i l c)
unfolding after_of
handed_on_good i l c r q = record {
  slots_same = started_length (reports_in i) c.pairing (settled_table i c.pairing) ∙ settled_length i c.pairing;
  sector_in = next_lies i.sector;
  slots_good = started_good (reports_in i) c.pairing (settled_table i c.pairing) r.sector_in (good_reports r) (settled_fit r q);
}

-- ---- an accepted call

-- what was promised of it: its choice, and what it left
abbrev pub outcome : {l l' : Lent} (a : Accepted l l') → ServedWith (input_of l a.site a.batch) l l' a.promise.counts
outcome a = a.promise.served a.not_refused

-- and it was ready
pub was_ready : {l l' : Lent} (a : Accepted l l') → Ready (input_of l a.site a.batch)
unfolding sector_refusal
was_ready {l} a = let i : Input = input_of l a.site a.batch in ready i (not_refused i (room_for i l) a.not_refused).0

pub accepted_leaves_good : {l l' : Lent} → Accepted l l' → LeftGood (length l.table) l'
accepted_leaves_good {l} {l'} a =
    let w = outcome a in
    rw w.left (handed_on_good (input_of l a.site a.batch) l w.chosen (was_ready a) w.choice)

-- ---- the next call

-- a demand that holds is not the one that a call is refused by
module _ (i : Input) (room : Bool) where
  not_by : (k : ℕ) → suc k < no_room → get_or (demands i) k true ≡ true → refusal_of i room ≡ suc k → ⊥
  not_by k h e q = clash e (fault_means i k (by_fault i room (suc k) h (λ z. omega arith) q)).0

-- the table has slots, and not too many, and none of them is malformed for the sector
none_bad : (s : ℕ) (table : List (List ℕ)) → ((k : ℕ) → k < length table → bad_slot_field (get_or table k []) s ≡ track_fields) → none_of (slot_bad s) table ≡ true
unfolding none_of slot_bad
none_bad s table g = le-leb _ _ (le_of_eq (sym (first_nowhere (slot_bad s) table [] (λ k h. rw (g k h)))))

-- the demands 1, 2 and 4 hold of it
module _ {l l' next : Lent} (a : Accepted l l') (o : HandsOn l' next) (site : Site) (batch : List (List ℕ)) where
  slots_as_before : length next.table ≡ length l.table
  slots_as_before = rw o.table (accepted_leaves_good a).slots_same

  demand_met : {number : ℕ} → OfTable number → get_or (true ∷ demands (input_of next site batch)) number true ≡ true
  unfolding demands
  demand_met is_1 =
      let r = was_ready a in
      and_both (le-leb 1 (length next.table) (rw slots_as_before r.some_slots)) (le-leb (length next.table) most_slots (rw slots_as_before r.few_slots))
  demand_met is_2 = lt-ltb next.sector sectors (rw o.sector (accepted_leaves_good a).sector_in)
  demand_met is_4 = none_bad next.sector next.table (rw (o.table, o.sector) (accepted_leaves_good a).slots_good)

  -- A call that is lent the table and the sector as an accepted call left them is never refused 1, 2 or 4, whatever else it is handed.
  pub never_refused_1_2_4 : {number : ℕ} → OfTable number → sector_refusal (input_of next site batch) next ≡ number → ⊥
  unfolding sector_refusal
  never_refused_1_2_4 is_1 = not_by (input_of next site batch) _ 0 (omega arith) (demand_met is_1)
  never_refused_1_2_4 is_2 = not_by (input_of next site batch) _ 1 (omega arith) (demand_met is_2)
  never_refused_1_2_4 is_4 = not_by (input_of next site batch) _ 3 (omega arith) (demand_met is_4)

  -- So it never answers by 1, 2 or 4.
  pub never_answered_1_2_4 : {r : Refusal} {last : Lent} {answer : Result Counts Refusal} → OfTable (number r) → ServesSector (input_of next site batch) next last answer → answer ≡ Err r → ⊥
  never_answered_1_2_4 {r} {last} {answer} n w e =
      never_refused_1_2_4 n ((refused_exactly_when (input_of next site batch) next last answer w r).only e)
