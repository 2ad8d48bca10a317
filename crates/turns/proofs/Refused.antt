-- Refused calls, one after another: the same call is refused again, and over 100 due tracks stay so.
use Prim.Native.Nat.{ℕ, ◌<◌}
use mathlib.Core.Path.{◌≡◌, sym, ap, ◌∙◌}
use mathlib.Core.List.{List}
use mathlib.Core.Logic.{⊎_elim}
use native.Mathlib.Omega.{arith}
use borrow.Author.Tests.{leb-false}
use lib.ListN.{length}
use Rattle.laws.proofs.Stores.{le_or_lt}
use Rattle.records.specs.declared.Site.{Site}
use Rattle.std.specs.Prelude.{Result, Err}
use Rattle.intake.specs.declared.Refusal.{Refusal}
use Rattle.intake.specs.declared.Refusal.TheVariants.{TooManyDue}
use Rattle.intake.specs.Refusals.{Input, number, refusal_numbered, most_due, due_slots, demands, fault_of}
use Rattle.intake.proofs.Numbers.{same_number}
use Rattle.intake.proofs.Readiness.{ready, fault_means, fault_upto, fault_numbered, refused_by_fault}
use Rattle.sector.specs.declared.Counts.{Counts}
use Rattle.sector.specs.Serve.{Lent, input_of, sector_refusal, ServesSector}
use Rattle.promises.specs.Words.{RefusedExactlyWhen}
use Rattle.promises.proofs.Calls.{refused_exactly_when}
use Rattle.promises.proofs.Together.{by_fault}
use Rattle.turns.specs.Calls.{HandsOn}

-- refused by 8: over 100 tracks are due, and that is a matter of the table alone
many_due : (i : Input) → fault_of i ≡ 8 → most_due < length (due_slots i.table)
unfolding demands
many_due i e = leb-false _ _ (fault_means i 7 e).0

still_at_fault : (i : Input) → most_due < length (due_slots i.table) → fault_of i ≡ 0 → ⊥
still_at_fault i h z = omega (arith, (ready i z).few_due)

module _ {l l' : Lent} {answer : Result Counts Refusal} (site : Site) (batch : List (List ℕ)) (R : ServesSector (input_of l site batch) l l' answer) where
  -- A call that is refused leaves everything as it was, and the same call again is refused alike and leaves it so.
  pub refused_again : {last : Lent} {again : Result Counts Refusal} (r : Refusal) → answer ≡ Err r → ServesSector (input_of l' site batch) l' last again → (again ≡ Err r) × (last ≡ l)
  refused_again {last} {again} r e Q =
      let w : RefusedExactlyWhen (input_of l site batch) l l' answer r = refused_exactly_when _ l l' answer R r in
      let q : ServesSector (input_of l site batch) l last again = rw (w.kept e) at Q in
      let v : RefusedExactlyWhen (input_of l site batch) l last again r = refused_exactly_when _ l last again q r in
      let a : again ≡ Err r = v.when (w.only e) in
      (a, v.kept a)

  -- After a refusal by 8, every call on that table that is refused by none of 1 to 7 is refused by 8, whatever its site and batch.
  pub eight_stays : {next last : Lent} {again : Result Counts Refusal} → answer ≡ Err TooManyDue → HandsOn l' next → (site' : Site) (batch' : List (List ℕ)) → ServesSector (input_of next site' batch') next last again → ((r : Refusal) → number r < 8 → again ≡ Err r → ⊥) → again ≡ Err TooManyDue
  unfolding sector_refusal
  eight_stays {next} {last} {again} e o site' batch' Q n =
      let i : Input = input_of next site' batch' in
      let w : RefusedExactlyWhen (input_of l site batch) l l' answer TooManyDue = refused_exactly_when _ l l' answer R TooManyDue in
      let f : fault_of (input_of l site batch) ≡ 8 = by_fault _ _ 8 (omega arith) (λ z. omega arith) (w.only e) in
      let same : next.table ≡ l.table = o.table ∙ ap (λ (x : Lent). x.table) (w.kept e) in
      let bad : fault_of i ≡ 0 → ⊥ = still_at_fault i (rw same (many_due (input_of l site batch) f)) in
      let r : Refusal = refusal_numbered (fault_of i) in
      let q : number r ≡ fault_of i = fault_numbered i bad in
      let a : again ≡ Err r = (refused_exactly_when _ next last again Q r).when (refused_by_fault _ _ bad ∙ sym q) in
      let eight : number r ≡ 8 = ⊎_elim (λ h. omega (arith, fault_upto i, q)) (λ h. absurd (n r h a)) (le_or_lt 8 (number r)) in
      a ∙ ap Err (same_number r TooManyDue eight)
