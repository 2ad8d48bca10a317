-- What is told of one report, by its fate.
use Prim.Native.Nat.{ℕ, ◌+◌, ◌≤◌, ◌<◌}
use mathlib.Core.Path.{◌≡◌, refl, sym, ap, ◌∙◌}
use mathlib.Core.Bool.{Bool, true, false, cond}
use mathlib.Core.List.{List, [], ◌∷◌}
use Rattle.std.proofs.Common.{Some, None}
use Rattle.std.specs.Option.{unwrap_or, option_map}
use Rattle.std.specs.List.{position, count_by}
use Rattle.std.proofs.lemmas.List.Recursion.{is_count_by}
use Rattle.laws.specs.Lists.{first_index, indices_from, count, found_below}
use Rattle.laws.proofs.Search.{first_upto, position_found}
use native.Mathlib.Omega.{arith}
use borrow.Author.Tests.{ltb-true, ltb-false, lt-ltb, le-ltb, eqb-true, eqb-false, eq-eqb, ne_eqb}
use lib.Dec.{eqb, leb, ltb}
use lib.ListN.{length, get_or, drop, length-drop}
use Rattle.records.specs.declared.Report.{Report}
use Rattle.records.specs.Fields.{is_weak}
use Rattle.records.specs.Bytes.{bytes_of, report_of, is_free}
use Rattle.settling.specs.Settle.{started_of}
use Rattle.fates.specs.Fates.{fate_number, slot_number, mark, free_slot, owner_of, told_unpaired, after_unpaired, told_of, after_report, Handed}
use Rattle.laws.proofs.Rounds.{passed_from, first_later, count_from}

-- a test of equality either way round
pub eqb_sym : (a b : ℕ) → eqb a b ≡ eqb b a
eqb_sym a b = go (eqb b a) refl
  where
    go : (t : Bool) → eqb b a ≡ t → eqb a b ≡ t
    go true e = eq-eqb _ _ (sym (eqb-true b a e))
    go false e = ne_eqb _ _ (λ z. eqb-false b a e (sym z))

-- an index that is there, and one that is not
found_within : (long index : ℕ) {i : ℕ} → Some i ≡ found_below index long → (i ≡ index) × (ltb index long ≡ true)
unfolding found_below
found_within long index {i} e = go (ltb index long) refl
  where
    go : (b : Bool) → ltb index long ≡ b → (i ≡ index) × (ltb index long ≡ true)
    go true q = let some : Some i ≡ Some index = rw q at e in (cc, q)
    go false q = let none : Some i ≡ None = rw q at e in absurd (cc)

not_within : (long index : ℕ) → None ≡ found_below index long → ltb index long ≡ false
unfolding found_below
not_within long index e = go (ltb index long) refl
  where
    go : (b : Bool) → ltb index long ≡ b → ltb index long ≡ false
    go true q = let some : None ≡ Some index = rw q at e in absurd (cc)
    go false q = q

-- std's words for the first place of a kind, and for how many there are
module _ {A : Type 0} (p q : A → Bool) (same : (x : A) → p x ≡ q x) where
  position_same : (xs : List A) → position p xs ≡ found_below (first_index q xs) (length xs)
  unfolding first_index
  position_same xs = rw (position_found p xs) (ap (λ (n : ℕ). found_below n (length xs)) (go xs))
    where
      go : (xs : List A) → first_index p xs ≡ first_index q xs
      go [] = refl
      go (x ∷ xs) = rw (same x, go xs) refl

  pub count_by_count : (xs : List A) → count_by p xs ≡ count q xs
  unfolding indices_from
  count_by_count xs = sym (is_count_by (count q) p refl (λ x xs. rw (same x) (go (q x) xs)) xs)
    where
      go : (b : Bool) (xs : List A) → length (cond b (0 ∷ indices_from q 1 xs) (indices_from q 1 xs)) ≡ cond b (1 + count q xs) (count q xs)
      go true xs = rw (count_from q 1 0 xs) (omega arith)
      go false xs = count_from q 1 0 xs

-- the due track that has a report, and the lowest free slot
position_owner : (P : List ℕ) (j : ℕ) → position (λ number. eqb number j) P ≡ found_below (owner_of P j) (length P)
unfolding owner_of
position_owner P j = position_same _ (eqb j) (λ number. eqb_sym number j) P

position_free : (table : List (List ℕ)) → position is_free table ≡ found_below (free_slot table) (length table)
unfolding free_slot
position_free table = position_found is_free table

pub owner_found : (P : List ℕ) (j : ℕ) {rank : ℕ} → Some rank ≡ position (λ number. eqb number j) P → (rank ≡ owner_of P j) × (ltb (owner_of P j) (length P) ≡ true)
owner_found P j e = found_within (length P) (owner_of P j) (e ∙ position_owner P j)

pub no_owner : (P : List ℕ) (j : ℕ) → None ≡ position (λ number. eqb number j) P → ltb (owner_of P j) (length P) ≡ false
no_owner P j e = not_within (length P) (owner_of P j) (e ∙ position_owner P j)

pub free_found : (table : List (List ℕ)) {k : ℕ} → Some k ≡ position is_free table → (k ≡ free_slot table) × (k < length table)
free_found table e =
    let w = found_within (length table) (free_slot table) (e ∙ position_free table) in
    (w.0, omega (arith, w.0, ltb-true _ _ w.1))

pub none_free : (table : List (List ℕ)) → None ≡ position is_free table → length table ≤ free_slot table
none_free table e = ltb-false _ _ (not_within (length table) (free_slot table) (e ∙ position_free table))

-- slots that are known not to be free may be passed
pub position_past : (table : List (List ℕ)) (from : ℕ) → from ≤ free_slot table → position is_free table ≡ option_map (λ k. from + k) (position is_free (drop from table))
unfolding free_slot found_below
position_past table from h =
    let ahead : from + free_slot (drop from table) ≡ free_slot table = (passed_from is_free table from h).ahead in
    rw (position_free table, position_free (drop from table)) (go (ltb (free_slot (drop from table)) (length (drop from table))) refl ahead)
  where
    go : (b : Bool) → ltb (free_slot (drop from table)) (length (drop from table)) ≡ b → from + free_slot (drop from table) ≡ free_slot table → found_below (free_slot table) (length table) ≡ option_map (λ k. from + k) (cond b (Some (free_slot (drop from table))) None)
    go true q ahead = rw (lt-ltb (free_slot table) (length table) (omega (arith, ltb-true _ _ q, length-drop from table, ahead)), ahead)
    go false q ahead = rw (le-ltb (free_slot table) (length table) (omega (arith, ltb-false _ _ q, length-drop from table, ahead, h, first_upto is_free table)))

-- or the table's length
pub lowest_or_length : (table : List (List ℕ)) → unwrap_or (position is_free table) (length table) ≡ free_slot table
unfolding free_slot found_below
lowest_or_length table = rw (position_free table) (go (ltb (free_slot table) (length table)) refl)
  where
    go : (b : Bool) → ltb (free_slot table) (length table) ≡ b → unwrap_or (cond b (Some (free_slot table)) None) (length table) ≡ free_slot table
    go true q = refl
    go false q = omega (arith, first_upto is_free table, ltb-false _ _ q)

module _ (p : Report) (s : ℕ) (table : List (List ℕ)) where
  -- a table has no lower free slot after an unpaired report
  pub unpaired_free : free_slot table ≤ free_slot (after_unpaired p s table)
  unfolding told_unpaired after_unpaired free_slot fate_number
  unpaired_free = go (is_weak p) (leb (length table) (free_slot table)) refl refl
    where
      go : (w f : Bool) → is_weak p ≡ w → leb (length table) (free_slot table) ≡ f → free_slot table ≤ free_slot (after_unpaired p s table)
      go true f a b = rw a (omega arith)
      go false true a b = rw (a, b) (omega arith)
      go false false a b = rw (a, b) (first_later is_free table (bytes_of (started_of p s)))

-- and after any report
pub report_free : (h : Handed) (P : List ℕ) (j : ℕ) (table : List (List ℕ)) → free_slot table ≤ free_slot (after_report h P j table)
unfolding after_report
report_free h P j table = go (ltb (owner_of P j) (length P))
  where
    go : (b : Bool) → free_slot table ≤ free_slot (cond b table (after_unpaired (report_of (get_or h.batch j [])) h.sector table))
    go true = omega arith
    go false = unpaired_free (report_of (get_or h.batch j [])) h.sector table

-- the three answers of a report
abbrev pub fate_out : Handed → List ℕ → ℕ → List (List ℕ) → ℕ
fate_out h P j table = fate_number (told_of h P j table).fate

abbrev pub slot_out : Handed → List ℕ → ℕ → List (List ℕ) → ℕ
slot_out h P j table = slot_number (told_of h P j table).slot

abbrev pub shown_out : Handed → List ℕ → ℕ → List (List ℕ) → ℕ
shown_out h P j table = mark (told_of h P j table).shown
