-- The answer of the sheet call and what it leaves, by the way that the call went.
use Prim.Native.Nat.{ℕ, zero, suc, ◌*◌, ◌≤◌, ◌<◌}
use mathlib.Core.Path.{◌≡◌, refl, sym, ap, ◌∙◌}
use mathlib.Core.Bool.{Bool, cond}
use mathlib.Core.List.{List, ◌++◌}
use native.Mathlib.Omega.{arith}
use borrow.Author.Tests.{le-leb, lt-leb}
use lib.ListN.{length, take, drop}
use lib.Seq.{length-take-le}
use native.Mathlib.Nat.{mul-le-mul}
use Rattle.intake.specs.Refusals.{Input, due_slots, most_due, most_batch, number, fault_of, refusal_of, answer_by, Ready, no_room}
use Rattle.intake.proofs.Numbers.{number_positive, answer_refused}
use Rattle.intake.specs.declared.Refusal.{Refusal}
use Rattle.intake.specs.declared.Refusal.TheVariants.{NoRoom}
use Rattle.std.specs.Prelude.{Result, Ok, Err}
use Rattle.intake.proofs.Readiness.{ready, refused_by_fault, refused_by_room}
use Rattle.scoresheet.specs.declared.Size.{Size}
use Rattle.scoresheet.specs.Cells.{cells_of, tracks_of, reports_of}
use Rattle.scoresheet.specs.Ready.{RowsReady}
use Rattle.scoresheet.specs.Call.{cell_room, sized, size_of, sheeted_by, sheet_by, sheeted_of, sheet_after}
use Rattle.laws.proofs.Parts.{listed_room}

-- the answer r, and the sheet after the call
abbrev pub Answers : Input → List ℕ → Result Size Refusal → List ℕ → Type 0
Answers i sheet r after = (r ≡ sheeted_of i sheet) × (after ≡ sheet_after i sheet)

-- two results that meet the promise are equal
pub one_answer : (i : Input) (sheet : List ℕ) {r r' : Result Size Refusal} {after after' : List ℕ} → Answers i sheet r after → Answers i sheet r' after' → (r ≡ r') × (after ≡ after')
one_answer i sheet a b = (a.0 ∙ sym b.0, a.1 ∙ sym b.1)

kept_by : (k : ℕ) (i : Input) (sheet : List ℕ) → (k ≡ 0 → ⊥) → sheet ≡ sheet_by k i sheet
unfolding sheet_by
kept_by zero i sheet h = absurd (h refl)
kept_by (suc k) i sheet h = refl

refused : (r : Refusal) (i : Input) (sheet : List ℕ) → refusal_of i (cell_room i sheet) ≡ number r → Answers i sheet (Err r) sheet
unfolding sheeted_of sheet_after sheeted_by
refused r i sheet e = rw e (sym (answer_refused r (size_of i)), kept_by (number r) i sheet (number_positive r))

-- refused by one of 1 to 8
pub by_fault : (r : Refusal) (i : Input) (sheet : List ℕ) → number r ≡ fault_of i → Answers i sheet (Err r) sheet
by_fault r i sheet e = refused r i sheet (refused_by_fault i (cell_room i sheet) (λ z. number_positive r (e ∙ z)) ∙ sym e)

-- refused by 9
by_room : (i : Input) (sheet : List ℕ) → fault_of i ≡ 0 → length sheet < tracks_of i * reports_of i → Answers i sheet (Err NoRoom) sheet
unfolding cell_room
by_room i sheet e h =
    refused NoRoom i sheet
    (refused_by_room i (cell_room i sheet) e ∙ ap (λ (b : Bool). cond b 0 no_room) (lt-leb (tracks_of i * reports_of i) (length sheet) h))

-- served
done : (i : Input) (sheet : List ℕ) → fault_of i ≡ 0 → tracks_of i * reports_of i ≤ length sheet → Answers i sheet (Ok (size_of i)) (cells_of i ++ drop (tracks_of i * reports_of i) sheet)
unfolding sheeted_of sheet_after cell_room sheeted_by sheet_by answer_by
done i sheet e h = rw (refused_by_room i (cell_room i sheet) e, le-leb (tracks_of i * reports_of i) (length sheet) h) (refl, refl)

-- what the call counts on once 1 to 8 do not apply, with its due list
pub record Listed (i : Input) (n : ℕ) (due : List ℕ) : Type 0 where
  pub no_fault : fault_of i ≡ 0
  pub good : Ready i
  pub count : n ≡ tracks_of i
  pub slots : take n due ≡ due_slots i.table
  pub room : n ≤ length due

pub listed : {i : Input} {n : ℕ} {due : List ℕ} → fault_of i ≡ 0 → n ≡ length (due_slots i.table) → take n due ≡ due_slots i.table → Listed i n due
unfolding tracks_of
listed {i} {n} {due} z c s =
    record { no_fault = z; good = ready i z; count = c; slots = s; room = listed_room _ _ c s }

-- few enough cells to count
pub few_cells : {i : Input} {n : ℕ} {due : List ℕ} → Listed i n due → n * length i.batch ≤ most_due * most_batch
unfolding tracks_of
few_cells {i} {n} l = mul-le-mul {n₂ = most_due} (omega (arith, l.count, l.good.few_due)) l.good.few_reports

pub rows_ready : {i : Input} {n : ℕ} {due sheet : List ℕ} → Listed i n due → n * length i.batch ≤ length sheet → RowsReady i (take n due) sheet
rows_ready {i} {n} {due} {sheet} l h = record { due_is = l.slots; room = rw (length-take-le n due l.room) h }

-- the two ways on from there
pub too_short : {i : Input} {n : ℕ} {due : List ℕ} (sheet : List ℕ) → Listed i n due → length sheet < n * length i.batch → Answers i sheet (Err NoRoom) sheet
unfolding reports_of
too_short {i} {n} sheet l h = by_room i sheet l.no_fault (rw l.count at h)

pub served : {i : Input} {n : ℕ} {due : List ℕ} (sheet after : List ℕ) → Listed i n due → n * length i.batch ≤ length sheet → after ≡ cells_of i ++ drop (length (take n due) * length i.batch) sheet → Answers i sheet (Ok (sized n (length i.batch))) after
unfolding reports_of size_of
served {i} {n} {due} sheet after l h e =
    let c : length (take n due) ≡ tracks_of i = length-take-le n due l.room ∙ l.count in
    rw (e, c, l.count) (done i sheet l.no_fault (rw l.count at h))
