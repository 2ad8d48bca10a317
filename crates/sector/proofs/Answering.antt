-- The answer of the sector call, by the way that the call went.
use Prim.Native.Nat.{ℕ, ◌≤◌}
use mathlib.Core.Path.{◌≡◌, refl, sym, ap, ◌∙◌}
use mathlib.Core.Bool.{Bool, true, false, cond}
use mathlib.Core.List.{List, []}
use borrow.Author.Tests.{leb-true}
use Rattle.laws.proofs.Tests.{holds_each}
use Rattle.laws.specs.Tests.{holds}
use Rattle.std.specs.Prelude.{Result, Ok, Err}
use Rattle.intake.specs.declared.Refusal.{Refusal}
use Rattle.intake.specs.declared.Refusal.TheVariants.{NoRoom}
use Rattle.intake.specs.Refusals.{Input, number, refusal_numbered, answer_by, number_given, fault_of, no_room}
use Rattle.intake.proofs.Numbers.{number_positive, answer_refused, answer_else, answer_numbered}
use Rattle.intake.proofs.Readiness.{refused_by_fault, refused_by_room, refused_upto}
use Rattle.sector.specs.declared.Counts.{Counts}
use Rattle.sector.specs.Steps.{Room}
use Rattle.sector.specs.Serve.{Lent, lent, rooms, room_for, sector_refusal, tally, ServedWith, served_by, ServesSector}

-- no list is too short
pub room_facts : {reports table fates slots shown discounts prices : ℕ} → holds (rooms reports table fates slots shown discounts prices) ≡ true → Room table reports fates slots shown discounts prices
unfolding rooms
room_facts {reports} {table} {fates} {slots} {shown} {discounts} {prices} e =
    let w = holds_each (rooms reports table fates slots shown discounts prices) e in
    record {
      for_fates = leb-true _ _ w.0;
      for_slots = leb-true _ _ w.1.0;
      for_shown = leb-true _ _ w.1.1.0;
      for_discounts = leb-true _ _ w.1.1.1.0;
      for_prices = leb-true _ _ w.1.1.1.1.0;
    }

-- ---- the answer by its number

-- a number that is given is that of a refusal
pub refusal_upto : (i : Input) (l : Lent) → sector_refusal i l ≤ no_room
unfolding sector_refusal
refusal_upto i l = refused_upto i (room_for i l)

pub refused_by : (r : Refusal) (counts : Counts) → served_by (number r) counts ≡ Err r
unfolding served_by
refused_by r counts = answer_refused r counts

pub done_by : {k : ℕ} (counts : Counts) → k ≡ 0 → served_by k counts ≡ Ok counts
unfolding served_by answer_by
done_by counts e = ap (λ (n : ℕ). served_by n counts) e

module _ {i : Input} {l l' : Lent} {answer : Result Counts Refusal} (R : ServesSector i l l' answer) where
  -- A call gives back its number, or 0 where it is served.
  pub answers_number : number_given answer ≡ sector_refusal i l
  unfolding served_by
  answers_number = rw R.answered (answer_numbered (sector_refusal i l) R.counts (refusal_upto i l))

  -- A refused call answers the refusal of its number.
  pub answers_refused : (sector_refusal i l ≡ 0 → ⊥) → answer ≡ Err (refusal_numbered (sector_refusal i l))
  unfolding served_by
  answers_refused h = R.answered ∙ answer_else (sector_refusal i l) R.counts h

  -- A served call answers its counts.
  pub answers_done : sector_refusal i l ≡ 0 → answer ≡ Ok R.counts
  answers_done e = R.answered ∙ done_by R.counts e

-- ---- the three ways

-- nothing counted
nothing : Counts
nothing = tally [] 0 0 0

refused_with : (i : Input) (l : Lent) (r : Refusal) → sector_refusal i l ≡ number r → ServesSector i l l (Err r)
refused_with i l r e = record {
  counts = nothing;
  answered = rw e (sym (refused_by r nothing));
  refused = λ n. refl;
  served = λ z. absurd (number_positive r (sym e ∙ z));
}

-- refused by one of 1 to 8
pub by_fault : (i : Input) (l : Lent) (r : Refusal) → number r ≡ fault_of i → ServesSector i l l (Err r)
unfolding sector_refusal
by_fault i l r e = refused_with i l r (refused_by_fault i (room_for i l) (λ z. number_positive r (e ∙ z)) ∙ sym e)

-- refused by 9
pub by_room : (i : Input) (l : Lent) → fault_of i ≡ 0 → room_for i l ≡ false → ServesSector i l l (Err NoRoom)
unfolding sector_refusal
by_room i l e h =
    refused_with i l NoRoom (refused_by_room i (room_for i l) e ∙ ap (λ (b : Bool). cond b 0 no_room) h)

-- what stands in the lists of an answer stands in those that were lent
pub written : {i : Input} {l : Lent} {table : List (List ℕ)} {sector : ℕ} {fates slots shown discounts prices fates' slots' shown' discounts' prices' : List ℕ} {counts : Counts} → ServedWith i l (lent table sector fates' slots' shown' discounts' prices') counts → fates ≡ fates' → slots ≡ slots' → shown ≡ shown' → discounts ≡ discounts' → prices ≡ prices' → ServedWith i l (lent table sector fates slots shown discounts prices) counts
written w f o s d p = rw (f, o, s, d, p) w

-- served
pub by_serving : (i : Input) (l l' : Lent) (counts : Counts) → fault_of i ≡ 0 → room_for i l ≡ true → ServedWith i l l' counts → ServesSector i l l' (Ok counts)
unfolding sector_refusal
by_serving i l l' counts e h w =
    let z : sector_refusal i l ≡ 0 = refused_by_room i (room_for i l) e ∙ ap (λ (b : Bool). cond b 0 no_room) h in
    record {
      counts = counts;
      answered = sym (done_by counts z);
      refused = λ n. absurd (n z);
      served = λ q. w;
    }
