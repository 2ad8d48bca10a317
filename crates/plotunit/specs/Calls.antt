-- Each answer as C reads it: a number, 0 where the call is served, and a short list of numbers (01, 'Numbers a sector call gives
-- back'). All else that is promised is what the call behind it promises.
use Rattle.std.specs.Prelude.{ℕ, ◌≡◌, List, [], ◌∷◌, Result, Ok, Err}
use Rattle.records.specs.declared.Site.{Site}
use Rattle.intake.specs.declared.Refusal.{Refusal}
use Rattle.intake.specs.Refusals.{Input, number}
use Rattle.sector.specs.declared.Counts.{Counts}
use Rattle.sector.specs.Serve.{Lent, ServesSector, count_list}
use Rattle.scoresheet.specs.declared.Size.{Size}
use Rattle.scoresheet.specs.Call.{sheeted_of, sheet_after}
use Rattle.matching.specs.Answer.{check_number}
use Rattle.engine.specs.Call.{Paired, PairsSheet}

-- the site sheet, from its two bytes
abbrev pub site_from : (range_sigma azimuth_sigma : ℕ) → Site
site_from r a = record { range_sigma = r; azimuth_sigma = a }

-- ---- the sector call

unfoldable pub served_number : Result Counts Refusal → ℕ
served_number (Err refusal) = number refusal
served_number (Ok counts) = 0

-- the lent counts after the call
unfoldable pub served_counts : Result Counts Refusal → List ℕ → List ℕ
served_counts (Err refusal) before = before
served_counts (Ok counts) before = count_list counts

-- what C is told of the call, and all that was lent after it
pub record ServesForC (i : Input) (l l' : Lent) (counts counts' : List ℕ) (number : ℕ) : Type 0 where
  pub answer : Result Counts Refusal
  pub promised : ServesSector i l l' answer
  pub numbered : number ≡ served_number answer
  pub counted : counts' ≡ served_counts answer counts

-- ---- a sector's score sheet

unfoldable pub sheeted_number : Result Size Refusal → ℕ
sheeted_number (Err refusal) = number refusal
sheeted_number (Ok size) = 0

-- the lent size after the call
unfoldable pub sheeted_size : Result Size Refusal → List ℕ → List ℕ
sheeted_size (Err refusal) before = before
sheeted_size (Ok size) before = size.tracks ∷ size.reports ∷ []

-- what C is told of the call, and the sheet and the size after it
pub record ScoresForC (i : Input) (sheet sheet' size size' : List ℕ) (number : ℕ) : Type 0 where
  pub numbered : number ≡ sheeted_number (sheeted_of i sheet)
  pub filled : sheet' ≡ sheet_after i sheet
  pub sized : size' ≡ sheeted_size (sheeted_of i sheet) size

-- ---- the pairing of any sheet

abbrev pub paired_number : Paired → ℕ
paired_number = check_number

-- p, u, v are the pairing, prices and discounts before the call, p', u', v' after it
pub record PairsForC (n m : ℕ) (cells p u v p' u' v' : List ℕ) (number : ℕ) : Type 0 where
  pub answer : Paired
  pub promised : PairsSheet n m cells p u v p' u' v' answer
  pub numbered : number ≡ paired_number answer
