-- What C is told, by the case of the answer.
use Prim.Native.Nat.{ℕ, zero, suc, ◌≤◌}
use mathlib.Core.Path.{◌≡◌, refl, sym, ap, ◌∙◌}
use mathlib.Core.List.{List, [], ◌∷◌}
use native.Mathlib.Omega.{arith}
use Rattle.std.specs.Prelude.{Result, Ok, Err}
use Rattle.intake.specs.declared.Refusal.{Refusal}
use Rattle.intake.specs.Refusals.{Input, number, most_due, most_batch, refusal_of, answer_by, Ready}
use Rattle.intake.proofs.Readiness.{ready, not_refused}
use Rattle.sector.specs.declared.Counts.{Counts}
use Rattle.sector.specs.Serve.{Lent, ServesSector, count_list}
use Rattle.scoresheet.specs.declared.Size.{Size}
use Rattle.scoresheet.specs.Cells.{tracks_of, reports_of}
use Rattle.scoresheet.specs.Call.{cell_room, size_of, sheeted_by, sheeted_of, sheet_after}
use Rattle.plotunit.specs.Calls.{served_number, served_counts, ServesForC, sheeted_number, sheeted_size, ScoresForC}

-- ---- the sector call

pub serve_refused : {i : Input} {l l' : Lent} {counts : List ℕ} {a : Result Counts Refusal} {r : Refusal} → ServesSector i l l' a → a ≡ Err r → ServesForC i l l' counts counts (number r)
unfolding served_number served_counts
serve_refused {counts = counts} {a = a} p e =
    record {
      answer = a;
      promised = p;
      numbered = ap served_number (sym e);
      counted = ap (λ (b : Result Counts Refusal). served_counts b counts) (sym e);
    }

pub serve_done : {i : Input} {l l' : Lent} {counts counts' : List ℕ} {a : Result Counts Refusal} {c : Counts} → ServesSector i l l' a → a ≡ Ok c → counts' ≡ count_list c → ServesForC i l l' counts counts' 0
unfolding served_number served_counts
serve_done {counts = counts} {a = a} p e w =
    record {
      answer = a;
      promised = p;
      numbered = ap served_number (sym e);
      counted = w ∙ ap (λ (b : Result Counts Refusal). served_counts b counts) (sym e);
    }

-- ---- a sector's score sheet

-- both sizes are small where there are any
small_by : (k : ℕ) (i : Input) → (k ≡ 0 → Ready i) → (s : Size) → sheeted_by k i ≡ Ok s → (s.tracks ≤ most_due) × (s.reports ≤ most_batch)
unfolding sheeted_by answer_by size_of tracks_of reports_of
small_by zero i r s e =
    let same : size_of i ≡ s = cc in
    rw (← same) ((r refl).few_due, (r refl).few_reports)
small_by (suc k) i r s e = let z : ◌≡◌ {A = ℕ} 0 1 = cc in absurd (omega arith)

pub small : (i : Input) (sheet : List ℕ) {a : Result Size Refusal} {s : Size} → a ≡ sheeted_of i sheet → a ≡ Ok s → (s.tracks ≤ most_due) × (s.reports ≤ most_batch)
unfolding sheeted_of
small i sheet {a} {s} p e =
    small_by (refusal_of i (cell_room i sheet)) i (λ z. ready i (not_refused i (cell_room i sheet) z).0) s (sym p ∙ e)

pub sheet_refused : {i : Input} {sheet sheet' size : List ℕ} {a : Result Size Refusal} {r : Refusal} → a ≡ sheeted_of i sheet → sheet' ≡ sheet_after i sheet → a ≡ Err r → ScoresForC i sheet sheet' size size (number r)
unfolding sheeted_number sheeted_size
sheet_refused {size = size} p f e =
    record { numbered = ap sheeted_number (sym e ∙ p); filled = f; sized = ap (λ (b : Result Size Refusal). sheeted_size b size) (sym e ∙ p) }

pub sheet_done : {i : Input} {sheet sheet' size : List ℕ} {a : Result Size Refusal} {s : Size} → a ≡ sheeted_of i sheet → sheet' ≡ sheet_after i sheet → a ≡ Ok s → ScoresForC i sheet sheet' size (s.tracks ∷ s.reports ∷ []) 0
unfolding sheeted_number sheeted_size
sheet_done {size = size} p f e =
    record { numbered = ap sheeted_number (sym e ∙ p); filled = f; sized = ap (λ (b : Result Size Refusal). sheeted_size b size) (sym e ∙ p) }
