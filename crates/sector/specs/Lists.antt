-- The lists of an answer, as what is lent; and those of a worksheet, as what the steps count on.
use Rattle.std.specs.Prelude.{ℕ, ◌≡◌, Bool, List, length}
use Rattle.intake.specs.Refusals.{Input}
use Rattle.sector.specs.declared.Answer.{Answer}
use Rattle.sector.specs.declared.Worksheet.{Worksheet}
use Rattle.sector.specs.Steps.{Room, Pairable, PairedUp, PairedOff}
use Rattle.sector.specs.Serve.{Lent, lent, rooms}

abbrev pub lent_in : List (List ℕ) → ℕ → Answer → Lent
lent_in table sector a = lent table sector a.fates.now a.slots.now a.shown.now a.discounts.now a.prices.now

abbrev pub rooms_in : (reports table : ℕ) → Answer → List Bool
rooms_in reports table a =
    rooms reports table (length a.fates.now) (length a.slots.now) (length a.shown.now) (length a.discounts.now) (length a.prices.now)

abbrev pub RoomIn : (table reports : ℕ) → Answer → Type 0
RoomIn table reports a =
    Room table reports (length a.fates.now) (length a.slots.now) (length a.shown.now) (length a.discounts.now) (length a.prices.now)

-- the lists are still those that were lent
pub record SameLists (a a' : Answer) : Type 0 where
  pub fates : a'.fates.ghost_name ≡ a.fates.ghost_name
  pub slots : a'.slots.ghost_name ≡ a.slots.ghost_name
  pub shown : a'.shown.ghost_name ≡ a.shown.ghost_name
  pub discounts : a'.discounts.ghost_name ≡ a.discounts.ghost_name
  pub prices : a'.prices.ghost_name ≡ a.prices.ghost_name

abbrev pub PairableIn : Input → (due : List ℕ) → Worksheet → (discounts : List ℕ) → Type 0
PairableIn i due w discounts = Pairable i due w.cells.now w.pairing.now w.prices.now discounts

abbrev pub PairedUpIn : Input → (due : List ℕ) → Worksheet → Type 0
PairedUpIn i due w = PairedUp i due w.cells.now w.pairing.now w.prices.now

abbrev pub PairedOffIn : Input → (due : List ℕ) → Worksheet → (discounts discounts' : List ℕ) → Type 0
PairedOffIn i due w discounts discounts' = PairedOff i due w.cells.now w.pairing.now w.prices.now discounts discounts'
