-- From what a served call has found to what each of its steps asks, and what the steps leave.
use Prim.Native.Nat.{ℕ, ◌≤◌}
use mathlib.Core.Path.{◌≡◌, refl, sym, ap, ◌∙◌}
use mathlib.Core.List.{List, ◌++◌}
use native.Mathlib.Nat.{le_of_eq}
use lib.ListN.{length, take, drop}
use Rattle.laws.specs.Lists.{at}
use Rattle.matching.specs.Pairing.{sheet_of, sum_of_scores}
use Rattle.intake.specs.Refusals.{Input, due_slots, Ready}
use Rattle.scoresheet.specs.Cells.{tracks_of, reports_of, sector_sheet}
use Rattle.scoresheet.proofs.Due.{due_lies}
use Rattle.scoresheet.proofs.SheetLaws.{cells_length, sheet_in_range}
use Rattle.walk.specs.Table.{settled_table, slot_prices, coasted_count, dropped_count}
use Rattle.walk.specs.Ready.{TableReady}
use Rattle.fates.specs.Fates.{handed, Tellable, started_table, fates_of, slots_of, shown_of}
use Rattle.fates.proofs.Answers.{fates_taken}
use Rattle.sector.specs.declared.Counts.{Counts}
use Rattle.sector.specs.Sum.{Summable}
use Rattle.sector.specs.Steps.{PairedUp}
use Rattle.sector.specs.Serve.{lent, reports_in, fates_in, tally, counts_of}
use Rattle.sector.specs.Settled.{SettledAs}

module _ (i : Input) (due sheet P u : List ℕ) (r : Ready i) (p : PairedUp i due sheet P u) where
  -- the sheet that the pairing was made for is the sector's
  sheet_same : sheet_of (length P) (length i.batch) sheet ≡ sector_sheet i
  unfolding sector_sheet reports_of
  sheet_same = rw (p.number_each, p.sheet_is)

  pub summable : Summable (length i.batch) sheet P
  unfolding reports_of
  summable = record {
    few = r.few_reports;
    cells = rw (p.number_each, p.sheet_is) (le_of_eq (sym (cells_length i)));
    range = rw sheet_same (sheet_in_range i r);
    valid = rw sheet_same p.valid;
  }

  pub settles : (prices : List ℕ) → length i.table ≤ length prices → TableReady i due P u prices
  unfolding tracks_of sector_sheet reports_of
  settles prices h = record {
    names = record { number_each = le_of_eq (sym p.number_each); there = p.valid.there };
    due_is = p.due_is;
    priced = le_of_eq (sym p.price_each);
    room = h;
  }

  pub counted : (due ≡ due_slots i.table) × (length due ≤ length P)
  unfolding tracks_of
  counted = (p.due_is, le_of_eq (ap length p.due_is ∙ sym p.number_each))

  pub tellable : (table : List (List ℕ)) → length table ≡ length i.table → Tellable (handed due i.sector i.batch) P table
  unfolding tracks_of
  tellable table h = record {
    few_slots = rw h r.few_slots;
    few_reports = r.few_reports;
    sector_in = r.sector_in;
    number_each = p.number_each ∙ ap length (sym p.due_is);
    due_lies = rw (h, p.due_is) (due_lies i);
  }

  -- what the steps left, one after the other
  pub settled : {sector : ℕ} {before table table' : List (List ℕ)} {fates slots shown discounts prices fates' slots' shown' prices' : List ℕ} {coasted dropped scores : ℕ} {counts : Counts} → scores ≡ sum_of_scores (sheet_of (length P) (length i.batch) sheet) (at P) → coasted ≡ coasted_count i (length due) P → dropped ≡ dropped_count i (length due) P → table ≡ settled_table i P → prices' ≡ slot_prices i u ++ drop (length i.table) prices → table' ≡ started_table (handed due i.sector i.batch) P table → fates' ≡ fates_of (handed due i.sector i.batch) P table ++ drop (length i.batch) fates → slots' ≡ slots_of (handed due i.sector i.batch) P table ++ drop (length i.batch) slots → shown' ≡ shown_of (handed due i.sector i.batch) P table ++ drop (length i.batch) shown → counts ≡ tally (take (length i.batch) fates') coasted dropped scores → SettledAs i P u (lent before sector fates slots shown discounts prices) (lent table' sector fates' slots' shown' discounts prices') counts
  unfolding reports_of fates_in counts_of tracks_of
  settled {table} {fates = fates} s k d t q t' f o w n =
      let taken : take (length i.batch) (fates_of (reports_in i) P (settled_table i P) ++ drop (length i.batch) fates) ≡ fates_of (reports_in i) P (settled_table i P) = fates_taken (reports_in i) P (settled_table i P) (drop (length i.batch) fates) in
      record {
        table = rw (t', t, p.due_is);
        fate = rw (f, t, p.due_is);
        slot = rw (o, t, p.due_is);
        show = rw (w, t, p.due_is);
        discount = refl;
        price = q;
        count = rw (n, f, t, p.due_is, taken, k, d, s, sheet_same, p.due_is);
      }
