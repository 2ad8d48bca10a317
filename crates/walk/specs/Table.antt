-- The table after pairing, before any track starts (01, 'After pairing').
use Rattle.std.specs.Prelude.{ℕ, ◌+◌, cond, List, [], eqb, get_or, Option, Some, None}
use Rattle.laws.specs.Lists.{at, outs}
use Rattle.laws.specs.Sums.{sum}
use Rattle.records.specs.declared.Track.{Track}
use Rattle.records.specs.Bytes.{freed, track_of, bytes_of, report_of, slot_due, is_held}
use Rattle.settling.specs.Settle.{updated_of, without_pair, aged_of}
use Rattle.matching.specs.Pairing.{none}
use Rattle.intake.specs.Refusals.{Input, due_slots}

-- a due track with a pair
unfoldable pub paired_slot : (sector : ℕ) (report slot : List ℕ) → List ℕ
paired_slot sector report slot = bytes_of (updated_of (track_of slot) (report_of report) sector)

-- a due track without a pair is missed: it coasts, or is dropped
unfoldable pub missed_bytes : Option Track → List ℕ
missed_bytes (Some t) = bytes_of t
missed_bytes None = freed

unfoldable pub missed_slot : (sector : ℕ) (slot : List ℕ) → List ℕ
missed_slot sector slot = missed_bytes (without_pair (track_of slot) sector)

-- a slot that is not due: other held tracks lose 1 from their wait, a free slot keeps its bytes
unfoldable pub aged_slot : List ℕ → List ℕ
aged_slot slot = cond (is_held slot) (bytes_of (aged_of (track_of slot))) slot

-- a due slot stays for its service; any other ages
unfoldable pub rested_slot : List ℕ → List ℕ
rested_slot slot = cond (slot_due slot) slot (aged_slot slot)

-- the due tracks are counted in slot order: the next one's rank in the pairing
unfoldable pub due_rank : List ℕ → ℕ → ℕ
due_rank slot rank = rank + cond (slot_due slot) 1 0

-- what a slot becomes; P is the pairing, a report number a due track
unfoldable pub settled_slot : (sector : ℕ) (batch : List (List ℕ)) (P slot : List ℕ) (rank : ℕ) → List ℕ
settled_slot sector batch P slot rank =
    cond (slot_due slot)
    (cond (eqb (at P rank) none) (missed_slot sector slot) (paired_slot sector (get_or batch (at P rank) []) slot))
    (aged_slot slot)

-- a price per slot, 0 where not due at entry
unfoldable pub slot_price : List ℕ → List ℕ → ℕ → ℕ
slot_price prices slot rank = cond (slot_due slot) (at prices rank) 0

abbrev pub no_price : ℕ → ℕ
no_price price = 0

-- each slot of the table, settled at its rank; and each slot's price
unfoldable pub settled_table : Input → List ℕ → List (List ℕ)
settled_table i P = outs due_rank (settled_slot i.sector i.batch P) i.table 0

unfoldable pub slot_prices : Input → List ℕ → List ℕ
slot_prices i prices = outs due_rank (slot_price prices) i.table 0

-- ---- the counts of due tracks without a pair

-- a due track that is left out counts 1 where it coasts, or where it is dropped
unfoldable pub coasted_one : Option Track → ℕ
coasted_one (Some t) = 1
coasted_one None = 0

unfoldable pub dropped_one : Option Track → ℕ
dropped_one (Some t) = 0
dropped_one None = 1

-- what becomes of the due track of a rank that is left out
unfoldable pub missed_at : (table : List (List ℕ)) (sector rank : ℕ) → Option Track
missed_at table sector rank = without_pair (track_of (get_or table (get_or (due_slots table) rank 0) [])) sector

-- a sum over the ranks that are left out
unfoldable pub missed_sum : (Option Track → ℕ) → (table : List (List ℕ)) (sector tracks : ℕ) (P : List ℕ) → ℕ
missed_sum one table sector tracks P = sum tracks (λ rank. cond (eqb (at P rank) none) (one (missed_at table sector rank)) 0)

unfoldable pub coasted_count : Input → ℕ → List ℕ → ℕ
coasted_count i tracks P = missed_sum coasted_one i.table i.sector tracks P

unfoldable pub dropped_count : Input → ℕ → List ℕ → ℕ
dropped_count i tracks P = missed_sum dropped_one i.table i.sector tracks P
