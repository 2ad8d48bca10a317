-- The call's own lists, cut to the due tracks and the reports.
use Prim.Native.Nat.{ℕ, ◌*◌, ◌≤◌}
use mathlib.Core.Path.{◌≡◌, ap, ◌∙◌}
use mathlib.Core.List.{List}
use native.Mathlib.Nat.{mul-le-mul}
use native.Mathlib.Omega.{arith}
use lib.ListN.{length, take}
use lib.Seq.{length-take-le}
use Rattle.intake.specs.Refusals.{Input, due_slots, most_due, most_batch, Ready}
use Rattle.scoresheet.specs.Cells.{tracks_of, reports_of}
use Rattle.sector.specs.Steps.{Pairable}

-- the call's due list, and how large it and its sheet get
pub record DueListed (i : Input) (due : List ℕ) : Type 0 where
  pub slots : due ≡ due_slots i.table
  pub count : length due ≡ tracks_of i
  pub few : length due ≤ most_due
  pub cells : length due * length i.batch ≤ most_due * most_batch

pub due_listed : {i : Input} {due : List ℕ} → Ready i → due ≡ due_slots i.table → DueListed i due
unfolding tracks_of
due_listed {i} {due} r s =
    let few : length due ≤ most_due = rw s r.few_due in
    record { slots = s; count = ap length s; few = few; cells = mul-le-mul {n₂ = most_due} few r.few_reports }

pub pairable : {i : Input} {due : List ℕ} (sheet p u v : List ℕ) → DueListed i due → length sheet ≡ most_due * most_batch → length p ≡ most_due → length u ≡ most_due → length i.batch ≤ length v → Pairable i due (take (length due * length i.batch) sheet) (take (length due) p) (take (length due) u) v
unfolding reports_of
pairable {i} {due} sheet p u v d ls lp lu lv = record {
  due_is = d.slots;
  cell_each = length-take-le (length due * length i.batch) sheet (omega (arith, d.cells)) ∙ ap (λ (k : ℕ). k * length i.batch) d.count;
  number_room = length-take-le (length due) p (omega (arith, d.few)) ∙ d.count;
  price_room = length-take-le (length due) u (omega (arith, d.few)) ∙ d.count;
  discount_room = lv;
}
