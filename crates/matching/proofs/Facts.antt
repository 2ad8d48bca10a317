-- The check's tests, as facts: what each says where it holds, and that it holds where that is so.
use Prim.Native.Nat.{ℕ, ◌+◌, ◌*◌, ◌/◌, ◌%◌, ◌≤◌, ◌<◌}
use mathlib.Core.Path.{◌≡◌, refl, sym, ap, ◌∙◌}
use mathlib.Core.Bool.{Bool, true, false, not, ◌&&◌}
use mathlib.Core.List.{List}
use mathlib.Core.Logic.{⊎_elim}
use native.Mathlib.Omega.{arith}
use native.Mathlib.Nat.{ne_of_lt, mul-zero, mod-lt, div-lt_iff_lt-mul, div-add-mod', eq-zero-or-pos, lt_trans}
use lib.Arith.{digits_lt}
use lib.Dec.{ltb, eqb}
use lib.ListN.{length}
use borrow.Author.Tests.{ltb-true, leb-true, lt-ltb, le-leb, ne_eqb, eqb-false, not-true}
use Rattle.std.specs.Prelude.{Result, Ok, Err, MatchResult}
use Rattle.laws.specs.Tests.{each, refuse}
use Rattle.laws.proofs.Tests.{and_both, and_left, and_right, or_else, or_second, each_at, each_all, holds_each, all_hold, refuse_none}
use Rattle.laws.specs.Lists.{at}
use Rattle.matching.specs.declared.Fault.{Fault}
use Rattle.matching.specs.declared.Fault.TheVariants as fault
use Rattle.matching.specs.Pairing.{none, score_end, left_out, most_tracks, Sheet, Admissible, InRange, HasReport, ValidPairing, FairPrices, sheet_of}
use Rattle.matching.specs.Answer.{sizes_ok, Sizes, Fits, cell_ok, cells_ok, entry_ok, pairing_ok, numbers_ok, row_ok, scores_ok, totals_ok, sheet_refusal, check_answer, fault_number, check_number, answer_by}

-- ---- 21

module _ (n m cells pairing prices discounts : ℕ) where
  pub sizes : sizes_ok n m cells pairing prices discounts ≡ true → Sizes n m cells pairing prices discounts
  unfolding sizes_ok
  sizes e =
      let w = holds_each _ e in
      record {
        tracks_few = leb-true n _ w.0;
        reports_few = leb-true m _ w.1.0;
        cells_long = leb-true (n * m) _ w.1.1.0;
        pairing_long = leb-true n _ w.1.1.1.0;
        prices_long = leb-true n _ w.1.1.1.1.0;
        discounts_long = leb-true m _ w.1.1.1.1.1.0;
      }

  pub sizes_ok_lem : Sizes n m cells pairing prices discounts → sizes_ok n m cells pairing prices discounts ≡ true
  unfolding sizes_ok
  sizes_ok_lem z =
      all_hold _
      (le-leb n _ z.tracks_few, (le-leb m _ z.reports_few, (le-leb (n * m) _ z.cells_long, (le-leb n _ z.pairing_long, (le-leb n _ z.prices_long, (le-leb m _ z.discounts_long, tt))))))

-- ---- 22

module _ (n m : ℕ) (s : List ℕ) where
  pub in_range : n ≤ most_tracks → cells_ok (n * m) s ≡ true → InRange (sheet_of n m s)
  unfolding cells_ok
  in_range h e =
      record {
        tracks_few = h;
        scores = λ i j li lj a. ltb-true _ _ (or_second (eqb (at s (i * m + j)) none) _ (each_at _ (n * m) (i * m + j) e (digits_lt li lj)) (ne_eqb _ _ a));
      }

  -- cell k stands in row k / m
  cell_ok_lem : InRange (sheet_of n m s) → (k : ℕ) → k < n * m → 0 < m → cell_ok (at s k) ≡ true
  cell_ok_lem r k l pos =
      or_else (eqb (at s k) none) _
      (λ e. let d : k / m * m + k % m ≡ k = div-add-mod' k m in
      let h : at s (k / m * m + k % m) < score_end =
      r.scores (k / m) (k % m) ((div-lt_iff_lt-mul pos).1 l) (mod-lt k pos) (rw d (eqb-false _ _ e)) in
      lt-ltb _ _ (rw d at h))

  pub cells_ok_lem : InRange (sheet_of n m s) → cells_ok (n * m) s ≡ true
  unfolding cells_ok
  cells_ok_lem r =
      each_all _ (n * m)
      (λ k l. ⊎_elim (λ z. let e : n * m ≡ 0 = ap (λ x. n * x) z ∙ mul-zero n in absurd (omega arith)) (cell_ok_lem r k l) (eq-zero-or-pos m))

-- ---- 23

module _ (S : Sheet) (P : ℕ → ℕ) (i : ℕ) where
  abbrev there? : Bool
  there? = ltb (P i) S.reports

  abbrev admissible? : Bool
  admissible? = not (eqb (S.cell i (P i)) none)

  abbrev fresh? : Bool
  fresh? = each i (λ k. not (eqb (P k) (P i)))

  entry_rest : entry_ok S P i ≡ true → HasReport P i → (there? && admissible? && fresh?) ≡ true
  entry_rest e d = or_second _ _ e (ne_eqb (P i) none d)

  pub entry_there : entry_ok S P i ≡ true → HasReport P i → P i < S.reports
  entry_there e d = ltb-true _ _ (and_left there? admissible? (and_left (there? && admissible?) fresh? (entry_rest e d)))

  entry_admissible : entry_ok S P i ≡ true → HasReport P i → Admissible S i (P i)
  entry_admissible e d =
      eqb-false _ _ (not-true _ (and_right there? admissible? (and_left (there? && admissible?) fresh? (entry_rest e d))))

  entry_fresh : entry_ok S P i ≡ true → HasReport P i → (k : ℕ) → k < i → P k ≡ P i → ⊥
  entry_fresh e d k l = eqb-false (P k) (P i) (not-true _ (each_at _ i k (and_right (there? && admissible?) fresh? (entry_rest e d)) l))

  entry_ok_lem : (HasReport P i → P i < S.reports) → (HasReport P i → Admissible S i (P i)) → (HasReport P i → (k : ℕ) → k < i → P k ≡ P i → ⊥) → entry_ok S P i ≡ true
  entry_ok_lem h a f =
      or_else (eqb (P i) none) _
      (λ e. let d : HasReport P i = eqb-false (P i) none e in
      and_both {a = there? && admissible?}
      (and_both {a = there?} (lt-ltb _ _ (h d)) (rw (ne_eqb (S.cell i (P i)) none (a d))))
      (each_all _ i (λ k l. rw (ne_eqb (P k) (P i) (f d k l)))))

module _ (S : Sheet) (P : ℕ → ℕ) where
  pub valid : pairing_ok S P ≡ true → ValidPairing S P
  unfolding pairing_ok
  valid e =
      record {
        there = λ i l. entry_there S P i (entry i l);
        admissible = λ i l. entry_admissible S P i (entry i l);
        once = λ i k li lk d q.
            let a : i < k → ⊥ = λ h. entry_fresh S P k (entry k lk) (λ z. d (q ∙ z)) i h q in
            let b : k < i → ⊥ = λ h. entry_fresh S P i (entry i li) d k h (sym q) in
            omega arith;
      }
    where
      entry : (i : ℕ) → i < S.tracks → entry_ok S P i ≡ true
      entry i l = each_at (entry_ok S P) S.tracks i e l

  pub pairing_ok_lem : ValidPairing S P → pairing_ok S P ≡ true
  unfolding pairing_ok
  pairing_ok_lem p =
      each_all _ S.tracks
      (λ i l. entry_ok_lem S P i (p.there i l) (p.admissible i l) (λ d k h q. ne_of_lt h (p.once k i (lt_trans h l) l (λ z. d (sym q ∙ z)) q)))

-- ---- 24 and 25

module _ (S : Sheet) (u v : ℕ → ℕ) where
  pub fair : (numbers_ok S.tracks u && numbers_ok S.reports v) ≡ true → scores_ok S u v ≡ true → FairPrices S u v
  unfolding numbers_ok scores_ok
  fair a e =
      record {
        price = λ i l. leb-true (u i) left_out (each_at _ S.tracks i (and_left _ _ a) l);
        discount = λ j l. leb-true (v j) left_out (each_at _ S.reports j (and_right (numbers_ok S.tracks u) _ a) l);
        under = λ i j li lj d.
            leb-true (u i) (S.cell i j + v j) (or_second (eqb (S.cell i j) none) _ (each_at _ S.reports j (each_at (row_ok S u v) S.tracks i e li) lj) (ne_eqb _ _ d));
      }

  pub numbers_ok_lem : FairPrices S u v → (numbers_ok S.tracks u && numbers_ok S.reports v) ≡ true
  unfolding numbers_ok
  numbers_ok_lem f =
      and_both (each_all _ S.tracks (λ i l. le-leb (u i) left_out (f.price i l)))
      (each_all _ S.reports (λ j l. le-leb (v j) left_out (f.discount j l)))

  pub scores_ok_lem : FairPrices S u v → scores_ok S u v ≡ true
  unfolding scores_ok
  scores_ok_lem f =
      each_all _ S.tracks (λ i li. each_all _ S.reports (λ j lj.
      or_else _ _ (λ e. le-leb (u i) (S.cell i j + v j) (f.under i j li lj (eqb-false (S.cell i j) none e)))))

-- ---- 21 and 22 together

module _ (n m : ℕ) (s : List ℕ) (pairing prices discounts : ℕ) where
  -- a refusal stands, whatever would follow
  pub refusal_stands : (sheet_refusal n m s pairing prices discounts 0 ≡ 0 → ⊥) → (rest : ℕ) → sheet_refusal n m s pairing prices discounts 0 ≡ sheet_refusal n m s pairing prices discounts rest
  unfolding sheet_refusal
  refusal_stands h rest = go _ _ (sizes_ok n m (length s) pairing prices discounts) (cells_ok (n * m) s) h
    where
      go : (j k : ℕ) (a b : Bool) → (refuse j a (refuse k b 0) ≡ 0 → ⊥) → refuse j a (refuse k b 0) ≡ refuse j a (refuse k b rest)
      go j k false b h = refl
      go j k true false h = refl
      go j k true true h = absurd (h refl)

  pub passes : sheet_refusal n m s pairing prices discounts 0 ≡ 0 → (sizes_ok n m (length s) pairing prices discounts ≡ true) × (cells_ok (n * m) s ≡ true)
  unfolding sheet_refusal
  passes e =
      let a = refuse_none _ _ _ e tt in
      (a.0, (refuse_none _ _ _ a.1 tt).0)

  -- with no refusal the rest follows
  pub refusal_passed : sheet_refusal n m s pairing prices discounts 0 ≡ 0 → (rest : ℕ) → sheet_refusal n m s pairing prices discounts rest ≡ rest
  unfolding sheet_refusal
  refusal_passed e rest = rw ((passes e).0, (passes e).1)

  pub passed_sizes : sheet_refusal n m s pairing prices discounts 0 ≡ 0 → Sizes n m (length s) pairing prices discounts
  passed_sizes e = sizes n m (length s) pairing prices discounts (passes e).0

  pub passed_range : sheet_refusal n m s pairing prices discounts 0 ≡ 0 → InRange (sheet_of n m s)
  passed_range e = in_range n m s (passed_sizes e).tracks_few (passes e).1

  pub ready_passes : Sizes n m (length s) pairing prices discounts → InRange (sheet_of n m s) → (rest : ℕ) → sheet_refusal n m s pairing prices discounts rest ≡ rest
  unfolding sheet_refusal
  ready_passes z r rest = rw (sizes_ok_lem n m (length s) pairing prices discounts z, cells_ok_lem n m s r)

-- what is left to test where sizes and cells are in order
pub tests_left : (n m : ℕ) (s p u v : List ℕ) → Fits n m s p u v → cells_ok (n * m) s ≡ true → check_answer n m s p u v ≡ refuse 23 (pairing_ok (sheet_of n m s) (at p)) (refuse 24 (numbers_ok n (at u) && numbers_ok m (at v)) (refuse 25 (scores_ok (sheet_of n m s) (at u) (at v)) (refuse 26 (totals_ok (sheet_of n m s) (at p) (at u) (at v)) 0)))
unfolding check_answer sheet_refusal
tests_left n m s p u v z e = rw (sizes_ok_lem n m (length s) (length p) (length u) (length v) z, e)

-- ---- answers by their numbers

-- a fault has a number
pub no_zero : (f : Fault) → fault_number f ≡ 0 → ⊥
no_zero fault.Sizes e = omega arith
no_zero fault.Cells e = omega arith
no_zero fault.Pairing e = omega arith
no_zero fault.Numbers e = omega arith
no_zero fault.Scores e = omega arith
no_zero fault.Totals e = omega arith

-- the last test of a chain
pub last_test : (r : Result (Unit {0}) Fault) (ok : Bool) (f : Fault) → MatchResult r (λ _. ok ≡ true) (λ told. (ok ≡ false) × (told ≡ f)) → check_number r ≡ refuse (fault_number f) ok 0
last_test (Ok done) ok f h = rw h refl
last_test (Err e) ok f h = rw (h.0, h.1) refl

-- an answer is the one that stands for its number
pub answer_back : (r : Result (Unit {0}) Fault) → answer_by (check_number r) ≡ r
answer_back (Ok tt) = refl
answer_back (Err fault.Sizes) = refl
answer_back (Err fault.Cells) = refl
answer_back (Err fault.Pairing) = refl
answer_back (Err fault.Numbers) = refl
answer_back (Err fault.Scores) = refl
answer_back (Err fault.Totals) = refl
