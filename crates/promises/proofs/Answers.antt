-- The answer of a served call, entry by entry, and what the controller sees: the glider that is no longer lost.
use Prim.Native.Nat.{ℕ, ◌<◌}
use mathlib.Core.Path.{◌≡◌, refl, sym, ◌∙◌}
use mathlib.Core.Logic.{⊎_elim}
use mathlib.Core.Bool.{false}
use mathlib.Core.List.{List, [], ◌++◌}
use lib.ListN.{length, get_or, drop, get_or-append}
use lib.Seq.{ext_get_or}
use Rattle.laws.proofs.Stores.{same_or}
use Rattle.records.specs.Bytes.{slot_due}
use Rattle.laws.specs.Lists.{at}
use Rattle.matching.specs.Pairing.{none, HasReport, ValidPairing}
use Rattle.intake.specs.Refusals.{Input}
use Rattle.scoresheet.specs.Cells.{tracks_of, reports_of, due_slot, sector_sheet}
use Rattle.scoresheet.proofs.Due.{due_lies, due_is_due}
use Rattle.walk.specs.Table.{slot_price, settled_table, slot_prices}
use Rattle.walk.proofs.Settled.{rank_of, prices_length, price_at}
use Rattle.fates.specs.Fates.{slots_of, shown_of}
use Rattle.fates.proofs.Answers.{length_fates, length_slots, length_shown}
use Rattle.sector.specs.declared.Counts.{Counts}
use Rattle.sector.specs.Serve.{Lent, Chosen, Choice, reports_in, fates_in, after_of, ServedWith}
use Rattle.promises.specs.Words.{TrackContinued, SeenContinued, AnswersTold}
use Rattle.promises.proofs.Pairings.{valid_pairing, every_due_track_is_paired}
use Rattle.promises.proofs.Reports.{rank_is, pairing_is_read_off, shown_exactly_when}
use Rattle.promises.proofs.Slots.{paired_slot_after}

-- ---- entry by entry

module _ (i : Input) (c : Chosen) (l : Lent) (h : Choice i c) (j : ℕ) (here : j < reports_of i) where
  front : (xs rest : List ℕ) → length xs ≡ length i.batch → get_or (xs ++ rest) j 0 ≡ get_or xs j 0
  unfolding reports_of
  front xs rest e = get_or-append xs rest 0 j (rw e here)

  told_after : AnswersTold i c (after_of i l c) j
  unfolding after_of fates_in reports_of
  told_after =
      record {
        fate = front (fates_in i c.pairing) (drop (reports_of i) l.fates) (length_fates (reports_in i) c.pairing (settled_table i c.pairing));
        slot = front (slots_of (reports_in i) c.pairing (settled_table i c.pairing)) (drop (reports_of i) l.slots) (length_slots (reports_in i) c.pairing (settled_table i c.pairing));
        shown = front (shown_of (reports_in i) c.pairing (settled_table i c.pairing)) (drop (reports_of i) l.shown) (length_shown (reports_in i) c.pairing (settled_table i c.pairing));
        discount = front c.discounts (drop (reports_of i) l.discounts) h.discount_each;
      }

-- The first entries of the answer's lists are what the reports are told, and the discounts.
pub answers_are_told : (i : Input) (l l' : Lent) (counts : Counts) (s : ServedWith i l l' counts) (j : ℕ) → j < reports_of i → AnswersTold i s.chosen l' j
answers_are_told i l l' counts s j here = rw s.left (told_after i s.chosen l s.choice j here)

-- ---- the glider

module _ (i : Input) (c : Chosen) (h : Choice i c) where
  -- A due track that is paired: its report is told paired, in the track's slot, and is shown where the track had two updates or more.
  pub paired_track_is_continued : (rank : ℕ) → rank < tracks_of i → HasReport (at c.pairing) rank → TrackContinued i c.pairing rank
  unfolding sector_sheet
  paired_track_is_continued rank l p =
      let here : at c.pairing rank < reports_of i = (valid_pairing i c h).there rank l p in
      record {
        report = at c.pairing rank;
        here = here;
        has = refl;
        told = (pairing_is_read_off i c h (at c.pairing rank) here rank l).0 refl;
        shown = λ u. (shown_exactly_when i c h (at c.pairing rank) here).when (record { rank = rank; due = l; has = refl; old = u });
      }

-- The glider: where some one-to-one pairing of admissible pairs serves every due track, the call continues every due track: the answer says so,
-- shows each that had two updates or more, and the table holds the track as its report updates it.
pub glider : (i : Input) (l l' : Lent) (counts : Counts) → ServedWith i l l' counts → (Q : ℕ → ℕ) → ValidPairing (sector_sheet i) Q → ((rank : ℕ) → rank < tracks_of i → HasReport Q rank) → (rank : ℕ) → rank < tracks_of i → SeenContinued i l' rank
glider i l l' counts s Q q all rank b =
    let p : HasReport (at s.chosen.pairing) rank = every_due_track_is_paired i s.chosen s.choice Q q all rank b in
    let w : TrackContinued i s.chosen.pairing rank = paired_track_is_continued i s.chosen s.choice rank b p in
    let a : AnswersTold i s.chosen l' w.report = answers_are_told i l l' counts s w.report w.here in
    record {
      report = w.report;
      here = w.here;
      fate = a.fate ∙ w.told.fate;
      slot = a.slot ∙ w.told.slot;
      shown = λ u. a.shown ∙ w.shown u;
      continued = rw w.has at (paired_slot_after i l l' counts s rank b p);
    }

-- ---- prices

price_in_answer : (i : Input) (l : Lent) (c : Chosen) (k : ℕ) → k < length i.table → get_or (after_of i l c).prices k 0 ≡ slot_price c.prices (get_or i.table k []) (rank_of i.table k)
unfolding after_of slot_prices
price_in_answer i l c k h =
    get_or-append (slot_prices i c.prices) (drop (length i.table) l.prices) 0 k (rw (prices_length i c.prices) h)
    ∙ price_at i c.prices k h

-- The price of a due track stands at its slot, and 0 at a slot that is not due.
pub due_price_is_read_off : (i : Input) (l l' : Lent) (counts : Counts) (s : ServedWith i l l' counts) (rank : ℕ) → rank < tracks_of i → get_or l'.prices (due_slot i rank) 0 ≡ at s.chosen.prices rank
unfolding slot_price tracks_of
due_price_is_read_off i l l' counts s rank h =
    rw s.left (price_in_answer i l s.chosen (due_slot i rank) (due_lies i rank h) ∙ rw (due_is_due i rank h, rank_is i rank h))

pub other_price_is_zero : (i : Input) (l l' : Lent) (counts : Counts) (s : ServedWith i l l' counts) (k : ℕ) → k < length i.table → slot_due (get_or i.table k []) ≡ false → get_or l'.prices k 0 ≡ 0
unfolding slot_price
other_price_is_zero i l l' counts s k h d =
    rw s.left (price_in_answer i l s.chosen k h ∙ rw d)

-- ---- the choice

module _ (i : Input) (l l' : Lent) (n m : Counts) (s : ServedWith i l l' n) (t : ServedWith i l l' m) where
  -- a due track that one of two pairings with the same answer serves has the same report in the other
  same_report : (rank : ℕ) → rank < tracks_of i → HasReport (at t.chosen.pairing) rank → at s.chosen.pairing rank ≡ at t.chosen.pairing rank
  same_report rank b p =
      let w : TrackContinued i t.chosen.pairing rank = paired_track_is_continued i t.chosen t.choice rank b p in
      let a : AnswersTold i s.chosen l' w.report = answers_are_told i l l' n s w.report w.here in
      let d : AnswersTold i t.chosen l' w.report = answers_are_told i l l' m t w.report w.here in
      (pairing_is_read_off i s.chosen s.choice w.report w.here rank b).1
      (record { fate = sym a.fate ∙ d.fate ∙ w.told.fate; slot = sym a.slot ∙ d.slot ∙ w.told.slot })
      ∙ sym w.has

-- The whole choice can be read off the answer: two choices that leave the same bytes are the same pairing, prices and discounts.
pub choice_is_read_off : (i : Input) (l l' : Lent) (n m : Counts) (s : ServedWith i l l' n) (t : ServedWith i l l' m) → s.chosen ≡ t.chosen
choice_is_read_off i l l' n m s t =
    same_chosen s.chosen t.chosen
    (ext_get_or 0 s.chosen.pairing t.chosen.pairing (s.choice.number_each ∙ sym t.choice.number_each) (λ k b. pairing k (rw s.choice.number_each at b)))
    (ext_get_or 0 s.chosen.prices t.chosen.prices (s.choice.price_each ∙ sym t.choice.price_each) (λ k b. price k (rw s.choice.price_each at b)))
    (ext_get_or 0 s.chosen.discounts t.chosen.discounts (s.choice.discount_each ∙ sym t.choice.discount_each) (λ k b. discount k (rw s.choice.discount_each at b)))
  where
    same_chosen : (c d : Chosen) → c.pairing ≡ d.pairing → c.prices ≡ d.prices → c.discounts ≡ d.discounts → c ≡ d
    same_chosen c d e f g = λ k. record { pairing = e k; prices = f k; discounts = g k }

    pairing : (rank : ℕ) → rank < tracks_of i → at s.chosen.pairing rank ≡ at t.chosen.pairing rank
    pairing rank b =
        ⊎_elim
        (λ z. ⊎_elim (λ y. z ∙ sym y) (same_report i l l' n m s t rank b) (same_or (at t.chosen.pairing rank) none))
        (λ p. sym (same_report i l l' m n t s rank b p))
        (same_or (at s.chosen.pairing rank) none)

    price : (rank : ℕ) → rank < tracks_of i → at s.chosen.prices rank ≡ at t.chosen.prices rank
    price rank b = sym (due_price_is_read_off i l l' n s rank b) ∙ due_price_is_read_off i l l' m t rank b

    discount : (j : ℕ) → j < reports_of i → at s.chosen.discounts j ≡ at t.chosen.discounts j
    discount j b = sym (answers_are_told i l l' n s j b).discount ∙ (answers_are_told i l l' m t j b).discount
