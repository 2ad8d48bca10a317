-- The three calls: a sector call gives what the sheet call and the pairing call give together.
use Prim.Native.Nat.{ℕ, zero, suc, ◌+◌, ◌*◌, ◌≤◌, ◌<◌}
use mathlib.Core.Path.{◌≡◌, refl, sym, ap, ◌∙◌}
use mathlib.Core.Bool.{Bool, true, false, cond}
use mathlib.Core.List.{List, ◌++◌}
use mathlib.Core.Logic.{⊎_elim}
use native.Mathlib.Nat.{le_of_eq}
use native.Mathlib.Omega.{arith}
use lib.Arith.{digits_lt}
use lib.ListN.{length, take, drop, length-append, get_or-append}
use lib.Seq.{length-take-le, get_or-take, drop_at}
use Rattle.laws.proofs.Stores.{same_or}
use Rattle.laws.specs.Lists.{at}
use Rattle.matching.specs.Pairing.{InRange, Alike, sheet_of}
use Rattle.matching.specs.Answer.{Fits, check_answer}
use Rattle.matching.proofs.Theorems.{zero_certificate, ready_is_not_refused, beyond_is_not_read}
use Rattle.engine.specs.Call as pairing
use Rattle.std.specs.Prelude.{Result, Ok, Err}
use Rattle.intake.specs.declared.Refusal.{Refusal}
use Rattle.intake.specs.Refusals.{Input, number, number_given, fault_of, refusal_of, answer_by, Ready, no_room}
use Rattle.intake.proofs.Numbers.{number_positive, answer_refused, answer_numbered}
use Rattle.intake.proofs.Readiness.{ready, not_refused, refused_by_fault, refused_by_room, refused_upto}
use Rattle.scoresheet.specs.declared.Size.{Size}
use Rattle.scoresheet.specs.Cells.{cells_of, tracks_of, reports_of, sector_sheet}
use Rattle.scoresheet.specs.Call.{cell_room, sized, size_of, sheeted_by, sheet_by, sheeted_of, sheet_after}
use Rattle.scoresheet.proofs.SheetLaws.{cells_length, sheet_in_range}
use Rattle.sector.specs.declared.Counts.{Counts}
use Rattle.sector.specs.Serve.{Lent, sector_refusal, Chosen, Choice, counts_of, after_of, ServesSector}
use Rattle.sector.proofs.Answering.{done_by}
use Rattle.promises.specs.Words.{first_of, RoomToPair, Together, RefusedAlike}
use Rattle.promises.proofs.Calls.{refused_exactly_when}

-- ---- the sector's own sheet, whatever lies beyond its cells

module _ (i : Input) (rest : List ℕ) where
  cells_alike : Alike (tracks_of i * reports_of i) (at (cells_of i)) (at (cells_of i ++ rest))
  cells_alike k h = sym (get_or-append (cells_of i) rest 0 k (rw (cells_length i) h))

  module _ (r : Ready i) (p u v : List ℕ) (room : RoomToPair i p u v) where
    fits : Fits (tracks_of i) (reports_of i) (cells_of i ++ rest) p u v
    unfolding tracks_of reports_of
    fits = record {
      tracks_few = r.few_due;
      reports_few = r.few_reports;
      cells_long = rw (length-append, cells_length i) (omega arith);
      pairing_long = room.for_pairing;
      prices_long = room.for_prices;
      discounts_long = room.for_discounts;
    }

    in_range : InRange (sheet_of (tracks_of i) (reports_of i) (cells_of i ++ rest))
    unfolding sector_sheet
    in_range = record {
      tracks_few = (sheet_in_range i r).tracks_few;
      scores = λ a b ha hb. rw (← cells_alike (a * reports_of i + b) (digits_lt ha hb)) ((sheet_in_range i r).scores a b ha hb);
    }

    -- The pairing call never refuses a sector's own sheet where its result lists have room.
    pub own_sheet_is_not_refused : pairing.pairing_refusal (tracks_of i) (reports_of i) (cells_of i ++ rest) p u v ≡ 0
    own_sheet_is_not_refused = ready_is_not_refused (tracks_of i) (reports_of i) (cells_of i ++ rest) (length p) (length u) (length v) fits in_range

-- ---- what the sheet call gives

-- a sheet call that is not refused: its two sizes, and the sheet that it leaves
record SheetGiven (i : Input) (sheet after : List ℕ) (n m : ℕ) : Type 0 where
  pub is_ready : Ready i
  pub tracks : tracks_of i ≡ n
  pub reports : reports_of i ≡ m
  pub cells : after ≡ cells_of i ++ drop (tracks_of i * reports_of i) sheet

given_by : (k : ℕ) (i : Input) (sheet : List ℕ) (n m : ℕ) → (k ≡ 0 → Ready i) → sheeted_by k i ≡ Ok (sized n m) → SheetGiven i sheet (sheet_by k i sheet) n m
unfolding sheeted_by sheet_by answer_by size_of
given_by zero i sheet n m r e =
    let s : size_of i ≡ sized n m = cc in
    record { is_ready = r refl; tracks = ap (λ (z : Size). z.tracks) s; reports = ap (λ (z : Size). z.reports) s; cells = refl }
given_by (suc k) i sheet n m r e = let z : ◌≡◌ {A = ℕ} 0 1 = cc in absurd (omega arith)

given : (i : Input) (sheet : List ℕ) (n m : ℕ) → sheeted_of i sheet ≡ Ok (sized n m) → SheetGiven i sheet (sheet_after i sheet) n m
unfolding sheeted_of sheet_after
given i sheet n m e = given_by (refusal_of i (cell_room i sheet)) i sheet n m (λ z. ready i (not_refused i (cell_room i sheet) z).0) e

-- ---- the pairing call on that sheet

module _ (i : Input) (rest : List ℕ) (r : Ready i) (p u v : List ℕ) (room : RoomToPair i p u v) where
  -- the first entries of what a served call wrote
  written_is_a_choice : (p' u' v' : List ℕ) → pairing.SheetPaired (tracks_of i) (reports_of i) (cells_of i ++ rest) p u v p' u' v' → Choice i (first_of i p' u' v')
  written_is_a_choice p' u' v' s = record {
    number_each = length-take-le (tracks_of i) p' z.pairing_long;
    price_each = length-take-le (tracks_of i) u' z.prices_long;
    discount_each = length-take-le (reports_of i) v' z.discounts_long;
    accepted = same ∙ s.accepted;
  }
    where
      z : Fits (tracks_of i) (reports_of i) (cells_of i ++ rest) p' u' v'
      z = (zero_certificate (tracks_of i) (reports_of i) (cells_of i ++ rest) p' u' v' s.accepted).0

      same : check_answer (tracks_of i) (reports_of i) (cells_of i) (take (tracks_of i) p') (take (tracks_of i) u') (take (reports_of i) v') ≡ check_answer (tracks_of i) (reports_of i) (cells_of i ++ rest) p' u' v'
      same =
          beyond_is_not_read (tracks_of i) (reports_of i) (cells_of i) (cells_of i ++ rest) (take (tracks_of i) p') p' (take (tracks_of i) u') u' (take (reports_of i) v') v'
          (record {
            tracks_few = z.tracks_few;
            reports_few = z.reports_few;
            cells_long = le_of_eq (sym (cells_length i));
            pairing_long = le_of_eq (sym (length-take-le (tracks_of i) p' z.pairing_long));
            prices_long = le_of_eq (sym (length-take-le (tracks_of i) u' z.prices_long));
            discounts_long = le_of_eq (sym (length-take-le (reports_of i) v' z.discounts_long));
          })
          z (cells_alike i rest)
          (λ k h. get_or-take (tracks_of i) p' k 0 h) (λ k h. get_or-take (tracks_of i) u' k 0 h) (λ k h. get_or-take (reports_of i) v' k 0 h)

  -- a choice, with what lay beyond it
  choice_may_be_written : (c : Chosen) → Choice i c → pairing.SheetPaired (tracks_of i) (reports_of i) (cells_of i ++ rest) p u v (c.pairing ++ drop (tracks_of i) p) (c.prices ++ drop (tracks_of i) u) (c.discounts ++ drop (reports_of i) v)
  choice_may_be_written c h = record {
    accepted =
        sym
        (beyond_is_not_read (tracks_of i) (reports_of i) (cells_of i) (cells_of i ++ rest) c.pairing p₁ c.prices u₁ c.discounts v₁
        (zero_certificate (tracks_of i) (reports_of i) (cells_of i) c.pairing c.prices c.discounts h.accepted).0
        (fits i rest r p₁ u₁ v₁ (record {
          for_pairing = front_long c.pairing (drop (tracks_of i) p) h.number_each;
          for_prices = front_long c.prices (drop (tracks_of i) u) h.price_each;
          for_discounts = front_long c.discounts (drop (reports_of i) v) h.discount_each;
        }))
        (cells_alike i rest)
        (front c.pairing (drop (tracks_of i) p) h.number_each)
        (front c.prices (drop (tracks_of i) u) h.price_each)
        (front c.discounts (drop (reports_of i) v) h.discount_each))
        ∙ h.accepted;
    pairing_beyond = drop_at c.pairing (drop (tracks_of i) p) (tracks_of i) h.number_each;
    prices_beyond = drop_at c.prices (drop (tracks_of i) u) (tracks_of i) h.price_each;
    discounts_beyond = drop_at c.discounts (drop (reports_of i) v) (reports_of i) h.discount_each;
  }
    where
      p₁ : List ℕ
      p₁ = c.pairing ++ drop (tracks_of i) p

      u₁ : List ℕ
      u₁ = c.prices ++ drop (tracks_of i) u

      v₁ : List ℕ
      v₁ = c.discounts ++ drop (reports_of i) v

      front : {n : ℕ} (xs more : List ℕ) → length xs ≡ n → Alike n (at xs) (at (xs ++ more))
      front xs more e k l = sym (get_or-append xs more 0 k (rw e l))

      front_long : {n : ℕ} (xs more : List ℕ) → length xs ≡ n → n ≤ length (xs ++ more)
      front_long xs more e = rw length-append (omega arith)

  -- so it is done, and what it wrote is a choice
  call_is_done : {p' u' v' : List ℕ} {a : pairing.Paired} → pairing.PairsSheet (tracks_of i) (reports_of i) (cells_of i ++ rest) p u v p' u' v' a → Together i p' u' v' a
  call_is_done {p'} {u'} {v'} R = record {
    done = R.answered ∙ ap pairing.paired_by (own_sheet_is_not_refused i rest r p u v room);
    choice = written_is_a_choice p' u' v' (R.served (own_sheet_is_not_refused i rest r p u v room));
  }

  -- and any choice is what it may write
  call_may_write : (c : Chosen) → Choice i c → pairing.PairsSheet (tracks_of i) (reports_of i) (cells_of i ++ rest) p u v (c.pairing ++ drop (tracks_of i) p) (c.prices ++ drop (tracks_of i) u) (c.discounts ++ drop (reports_of i) v) (Ok tt)
  call_may_write c h =
      let z = own_sheet_is_not_refused i rest r p u v room in
      record { answered = sym (ap pairing.paired_by z); refused = λ d. absurd (d z); served = λ e. choice_may_be_written c h }

-- ---- the three calls

-- A sector call that is not refused may answer with any choice: with exactly that pairing, those prices and those discounts.
pub sector_call_may_answer_so : (i : Input) (l : Lent) (c : Chosen) → sector_refusal i l ≡ 0 → Choice i c → ServesSector i l (after_of i l c) (Ok (counts_of i c.pairing))
sector_call_may_answer_so i l c e h = record {
  counts = counts_of i c.pairing;
  answered = sym (done_by (counts_of i c.pairing) e);
  refused = λ d. absurd (d e);
  served = λ z. record { chosen = c; choice = h; counted = refl; left = refl };
}

module _ (i : Input) (sheet p u v : List ℕ) (n m : ℕ) (e : sheeted_of i sheet ≡ Ok (sized n m)) (room : RoomToPair i p u v) where
  -- Where the sheet call gives a sheet, the pairing call on it is done, and what it writes is a choice that the sector call may make.
  pub two_calls_give_a_choice : {p' u' v' : List ℕ} {a : pairing.Paired} → pairing.PairsSheet n m (sheet_after i sheet) p u v p' u' v' a → Together i p' u' v' a
  two_calls_give_a_choice R =
      let g = given i sheet n m e in
      call_is_done i _ g.is_ready p u v room (rw (g.cells, ← g.tracks, ← g.reports) at R)

  -- So a sector call gives what these two give together: it may answer with exactly that pairing and those numbers.
  pub sector_call_gives_both : {p' u' v' : List ℕ} {a : pairing.Paired} → pairing.PairsSheet n m (sheet_after i sheet) p u v p' u' v' a → (l : Lent) → sector_refusal i l ≡ 0 → ServesSector i l (after_of i l (first_of i p' u' v')) (Ok (counts_of i (take (tracks_of i) p')))
  sector_call_gives_both {p'} {u'} {v'} R l z = sector_call_may_answer_so i l (first_of i p' u' v') z (two_calls_give_a_choice R).choice

  -- And whatever choice a sector call makes, the pairing call may write on that sheet.
  pub choice_is_what_two_calls_give : (c : Chosen) → Choice i c → pairing.PairsSheet n m (sheet_after i sheet) p u v (c.pairing ++ drop n p) (c.prices ++ drop n u) (c.discounts ++ drop m v) (Ok tt)
  choice_is_what_two_calls_give c h =
      let g = given i sheet n m e in
      rw (g.cells, ← g.tracks, ← g.reports) (call_may_write i _ g.is_ready p u v room c h)

-- ---- refusals

-- a number of 1 to 8 is given whatever the room
pub by_fault : (i : Input) (room : Bool) (k : ℕ) → k < no_room → (k ≡ 0 → ⊥) → refusal_of i room ≡ k → fault_of i ≡ k
by_fault i room k h n e =
    ⊎_elim
    (λ z. absurd (go room (sym (refused_by_room i room z) ∙ e)))
    (λ d. sym (refused_by_fault i room d) ∙ e)
    (same_or (fault_of i) 0)
  where
    go : (b : Bool) → cond b 0 no_room ≡ k → ⊥
    go true z = n (sym z)
    go false z = omega arith

sheet_refused_by : (j : ℕ) (r : Refusal) (i : Input) → j ≤ no_room → (sheeted_by j i ≡ Err r → j ≡ number r) × (j ≡ number r → sheeted_by j i ≡ Err r)
unfolding sheeted_by
sheet_refused_by j r i h =
    (λ e. sym (answer_numbered j (size_of i) h) ∙ ap number_given e, λ e. rw e (answer_refused r (size_of i)))

-- A sector call and a sheet call that are handed the same are refused alike, by any but the room.
pub refused_alike : (i : Input) (l l' : Lent) (answer : Result Counts Refusal) (sheet : List ℕ) → ServesSector i l l' answer → (r : Refusal) → number r < no_room → RefusedAlike answer (sheeted_of i sheet) r
unfolding sector_refusal sheeted_of
refused_alike i l l' answer sheet R r h =
    let p = number_positive r in
    let w = sheet_refused_by _ r i (refused_upto i (cell_room i sheet)) in
    record {
      by_sheet = λ e.
          let f : fault_of i ≡ number r = by_fault i _ (number r) h p ((refused_exactly_when i l l' answer R r).only e) in
          w.1 (refused_by_fault i _ (λ z. p (sym f ∙ z)) ∙ f);
      by_sector = λ e.
          let f : fault_of i ≡ number r = by_fault i _ (number r) h p (w.0 e) in
          (refused_exactly_when i l l' answer R r).when (refused_by_fault i _ (λ z. p (sym f ∙ z)) ∙ f);
    }
