-- What the referee's word is worth. Each theorem with its plain meaning; the definitions are those of specs/. In proofs s, p, u, v are a
-- sheet's cells, a pairing, prices and discounts; S and P the sheet and the pairing that they stand for.
use Prim.Native.Nat.{ℕ, ◌+◌, ◌*◌, ◌≤◌, ◌<◌}
use mathlib.Core.Path.{◌≡◌, refl, sym, ap, ◌∙◌}
use mathlib.Core.Bool.{Bool, true, false, not, cond, ◌&&◌}
use mathlib.Core.List.{List, [], ◌∷◌}
use native.Mathlib.Omega.{arith}
use lib.Dec.{ltb}
use lib.ListN.{length}
use Rattle.laws.specs.Lists.{at, first_index}
use Rattle.laws.specs.Tests.{refuse}
use borrow.Author.Tests.{eq-eqb, eqb-true}
use Rattle.laws.proofs.Tests.{refuse_none}
use Rattle.std.specs.Prelude.{Result}
use Rattle.matching.specs.declared.Fault.{Fault}
use Rattle.matching.specs.Pairing.{none, Sheet, Admissible, InRange, HasReport, ValidPairing, pairs, missed_tracks, sum_of_scores, Best, Agree, Certificate, sheet_of, BestList}
use Rattle.matching.specs.Answer.{Sizes, Fits, sizes_ok, cells_ok, pairing_ok, numbers_ok, scores_ok, totals_ok, sheet_refusal, check_answer, check_number, answer_by}
use Rattle.matching.proofs.Duality as duality
use Rattle.matching.proofs.Facts as facts
-- the total measures 'most pairs, then least score': no saving in scores pays for leaving a track out
pub use Rattle.matching.proofs.Duality.{leaving_out_is_never_cheap, scores_stay_under, least_total_is_best, best_has_least_total}
-- a track left out has no admissible report that no track has
pub use Rattle.matching.proofs.FreeReport.{no_free_report}
-- best over lists of report numbers, and best over functions, say the same
pub use Rattle.matching.proofs.Same.{list_is_best, best_is_list}
-- entries beyond those that the tracks and reports need are neither read nor judged
pub use Rattle.matching.proofs.Beyond.{beyond_is_not_read}

-- ---- certificates

-- What a certificate shows is so: its pairing is best.
pub accepted_is_best : (S : Sheet) (P u v : ℕ → ℕ) → Certificate S P u v → Best S P
accepted_is_best S P u v c =
    least_total_is_best S P c.range c.valid (λ Q q. omega (arith, duality.prices_under S Q u v q c.fair, c.totals))

-- Prices and discounts that show one pairing best show it of every best pairing.
pub best_is_accepted : (S : Sheet) (P Q u v : ℕ → ℕ) → Certificate S P u v → Best S Q → Certificate S Q u v
best_is_accepted S P Q u v c b =
    record {
      range = c.range;
      valid = b.valid;
      fair = c.fair;
      totals = omega (arith, duality.prices_under S Q u v b.valid c.fair, best_has_least_total S Q P c.range b c.valid, c.totals);
    }

-- ---- best pairings

-- All best pairings of a sheet have the same number of pairs and the same sum of scores.
pub best_agree : (S : Sheet) (P Q : ℕ → ℕ) → Best S P → Best S Q → Agree S P Q
best_agree S P Q b c =
    let e : pairs S P ≡ pairs S Q = omega (arith, duality.at_most (b.most Q c.valid), duality.at_most (c.most P b.valid)) in
    let f : sum_of_scores S P ≡ sum_of_scores S Q =
    omega (arith, duality.at_most (b.least Q c.valid (sym e)), duality.at_most (c.least P b.valid e)) in
    record { same_pairs = e; same_scores = f }

-- Fewest misses: no valid pairing leaves fewer tracks out than a best one.
pub fewest_misses : (S : Sheet) (P Q : ℕ → ℕ) → Best S P → ValidPairing S Q → missed_tracks S P ≤ missed_tracks S Q
fewest_misses S P Q b q =
    omega (arith, duality.at_most (b.most Q q), duality.pairs_and_misses S P, duality.pairs_and_misses S Q)

-- Where all tracks can have a report at once, a best pairing gives each one.
pub all_are_paired : (S : Sheet) (P Q : ℕ → ℕ) → Best S P → ValidPairing S Q → ((i : ℕ) → i < S.tracks → HasReport Q i) → (i : ℕ) → i < S.tracks → HasReport P i
all_are_paired S P Q b q all =
    duality.no_misses S P (omega (arith, fewest_misses S P Q b q, duality.misses_none S Q all))

-- ---- the check's answer

-- Two results that meet the check's contract are equal.
pub one_answer : (n m : ℕ) (s p u v : List ℕ) (r r' : Result (Unit {0}) Fault) → check_number r ≡ check_answer n m s p u v → check_number r' ≡ check_answer n m s p u v → r ≡ r'
one_answer n m s p u v r r' e f = sym (facts.answer_back r) ∙ ap answer_by (e ∙ sym f) ∙ facts.answer_back r'

-- A sheet is refused with neither 21 nor 22 just where the lists are long enough, by their lengths, and its cells in range.
pub not_refused : (n m : ℕ) (s : List ℕ) (pairing prices discounts : ℕ) → sheet_refusal n m s pairing prices discounts 0 ≡ 0 → Sizes n m (length s) pairing prices discounts × InRange (sheet_of n m s)
not_refused n m s pairing prices discounts e =
    (facts.passed_sizes n m s pairing prices discounts e, facts.passed_range n m s pairing prices discounts e)

pub ready_is_not_refused : (n m : ℕ) (s : List ℕ) (pairing prices discounts : ℕ) → Sizes n m (length s) pairing prices discounts → InRange (sheet_of n m s) → sheet_refusal n m s pairing prices discounts 0 ≡ 0
ready_is_not_refused n m s pairing prices discounts z r = facts.ready_passes n m s pairing prices discounts z r 0

-- The answer is 0 just where the lists are long enough and hold a certificate.
pub zero_certificate : (n m : ℕ) (s p u v : List ℕ) → check_answer n m s p u v ≡ 0 → Fits n m s p u v × Certificate (sheet_of n m s) (at p) (at u) (at v)
unfolding check_answer sheet_refusal totals_ok
zero_certificate n m s p u v e =
    let a₁ = refuse_none _ _ _ e tt in
    let a₂ = refuse_none _ _ _ a₁.1 tt in
    let a₃ = refuse_none _ _ _ a₂.1 tt in
    let a₄ = refuse_none _ _ _ a₃.1 tt in
    let a₅ = refuse_none _ _ _ a₄.1 tt in
    let a₆ = refuse_none _ _ _ a₅.1 tt in
    let z = facts.sizes n m (length s) (length p) (length u) (length v) a₁.0 in (
      z,
      record {
        range = facts.in_range n m s z.tracks_few a₂.0;
        valid = facts.valid (sheet_of n m s) (at p) a₃.0;
        fair = facts.fair (sheet_of n m s) (at u) (at v) a₄.0 a₅.0;
        totals = eqb-true _ _ a₆.0;
      },
    )

pub certificate_zero : (n m : ℕ) (s p u v : List ℕ) → Fits n m s p u v → Certificate (sheet_of n m s) (at p) (at u) (at v) → check_answer n m s p u v ≡ 0
unfolding check_answer sheet_refusal totals_ok
certificate_zero n m s p u v z c =
    rw (
      facts.sizes_ok_lem n m (length s) (length p) (length u) (length v) z,
      facts.cells_ok_lem n m s c.range,
      facts.pairing_ok_lem (sheet_of n m s) (at p) c.valid,
      facts.numbers_ok_lem (sheet_of n m s) (at u) (at v) c.fair,
      facts.scores_ok_lem (sheet_of n m s) (at u) (at v) c.fair,
      eq-eqb _ _ c.totals,
    )

-- What the check accepts is best.
pub zero_is_best : (n m : ℕ) (s p u v : List ℕ) → check_answer n m s p u v ≡ 0 → Best (sheet_of n m s) (at p)
zero_is_best n m s p u v e = accepted_is_best (sheet_of n m s) (at p) (at u) (at v) (zero_certificate n m s p u v e).1

-- With the numbers that it accepted for one pairing it accepts every best pairing.
pub best_is_zero : (n m : ℕ) (s p q u v : List ℕ) → check_answer n m s p u v ≡ 0 → n ≤ length q → Best (sheet_of n m s) (at q) → check_answer n m s q u v ≡ 0
best_is_zero n m s p q u v e l b =
    let c = zero_certificate n m s p u v e in
    let z : Fits n m s q u v =
    record {
      tracks_few = c.0.tracks_few;
      reports_few = c.0.reports_few;
      cells_long = c.0.cells_long;
      pairing_long = l;
      prices_long = c.0.prices_long;
      discounts_long = c.0.discounts_long;
    } in
    certificate_zero n m s q u v z (best_is_accepted (sheet_of n m s) (at p) (at q) (at u) (at v) c.1 b)

-- All that the answer 0 says of a pairing p of n tracks with m reports.
pub record AcceptedNumbers (n m : ℕ) (s p u v : List ℕ) : Type 0 where
  -- no list of report numbers does better
  pub best : BestList (sheet_of n m s) p
  -- every list that does as well has as many pairs and the same sum of scores, and is accepted with the same numbers
  pub ties : (q : List ℕ) → BestList (sheet_of n m s) q → Agree (sheet_of n m s) (at p) (at q)
  pub every : (q : List ℕ) → BestList (sheet_of n m s) q → check_answer n m s q u v ≡ 0
  -- no valid pairing leaves fewer tracks out
  pub fewest : (q : List ℕ) → ValidPairing (sheet_of n m s) (at q) → missed_tracks (sheet_of n m s) (at p) ≤ missed_tracks (sheet_of n m s) (at q)
  -- where all tracks can have a report at once, all have one
  pub paired : (q : List ℕ) → ValidPairing (sheet_of n m s) (at q) → ((i : ℕ) → i < n → HasReport (at q) i) → (i : ℕ) → i < n → HasReport (at p) i
  -- an admissible report of a track left out is some track's
  pub used : (i j : ℕ) → i < n → at p i ≡ none → j < m → Admissible (sheet_of n m s) i j → (k : ℕ) × ((k < n) × (at p k ≡ j))

pub zero_says : (n m : ℕ) (s p u v : List ℕ) → check_answer n m s p u v ≡ 0 → AcceptedNumbers n m s p u v
zero_says n m s p u v e =
    let S : Sheet = sheet_of n m s in
    let b : Best S (at p) = zero_is_best n m s p u v e in
    let z = (zero_certificate n m s p u v e).0 in
    record {
      best = best_is_list S p z.pairing_long b;
      ties = λ q c. best_agree S (at p) (at q) b (list_is_best S q c);
      every = λ q c. best_is_zero n m s p q u v e c.long (list_is_best S q c);
      fewest = λ q. fewest_misses S (at p) (at q) b;
      paired = λ q. all_are_paired S (at p) (at q) b;
      used = no_free_report S (at p) b (omega (arith, z.reports_few));
    }

-- ---- the order of the answers

-- What is tested, in 01's order: the numbers 21 to 26.
unfoldable pub tests_of : (n m : ℕ) (s p u v : List ℕ) → List Bool
tests_of n m s p u v =
    let S : Sheet = sheet_of n m s in
    sizes_ok n m (length s) (length p) (length u) (length v)
    ∷ cells_ok (n * m) s
    ∷ pairing_ok S (at p)
    ∷ (numbers_ok n (at u) && numbers_ok m (at v))
    ∷ scores_ok S (at u) (at v)
    ∷ totals_ok S (at p) (at u) (at v)
    ∷ []

in_order : (a b c d e f : Bool) → refuse 21 a (refuse 22 b (refuse 23 c (refuse 24 d (refuse 25 e (refuse 26 f 0))))) ≡ cond (ltb (first_index not (a ∷ b ∷ c ∷ d ∷ e ∷ f ∷ [])) 6) (21 + first_index not (a ∷ b ∷ c ∷ d ∷ e ∷ f ∷ [])) 0
unfolding first_index
in_order false b c d e f = refl
in_order true false c d e f = refl
in_order true true false d e f = refl
in_order true true true false e f = refl
in_order true true true true false f = refl
in_order true true true true true false = refl
in_order true true true true true true = refl

-- The answer is 21 and the place of the first test that fails, or 0 where none does.
pub answers_in_order : (n m : ℕ) (s p u v : List ℕ) → check_answer n m s p u v ≡ cond (ltb (first_index not (tests_of n m s p u v)) 6) (21 + first_index not (tests_of n m s p u v)) 0
unfolding check_answer sheet_refusal tests_of
answers_in_order n m s p u v = in_order _ _ _ _ _ _
