-- The engine's state: fair prices, the pairing with at most one vacant report, and the tree of a search. n tracks, m reports, and the cells of their
-- sheet row by row.
use Rattle.std.specs.Prelude.{ℕ, zero, suc, ◌+◌, ◌-◌, ◌*◌, ◌≤◌, ◌<◌, ◌≡◌, List, [], ◌∷◌, ◌⊎◌, Bool, not, ◌&&◌, length, set, ltb, eqb}
use Rattle.laws.specs.Lists.{at}
use Rattle.matching.specs.Pairing.{none, left_out, most_tracks}
use Rattle.passes.specs.Cells.{far, Step, IsCell, Nearest, Searched}
use Rattle.paths.specs.declared.End.{End}
use Rattle.paths.specs.declared.End.TheVariants.{Free, LeftOut}

-- the engine itself takes this many reports, whatever the public call takes
abbrev pub widest : ℕ
widest = 200

-- track i's cell at report j
abbrev pub cell : List ℕ → ℕ → ℕ → ℕ → ℕ
cell cells m i j = at cells (i * m + j)

abbrev one_if_open : ℕ → ℕ
one_if_open zero = 1
one_if_open (suc n) = 0

-- how many reports are open
unfoldable pub open_count : List ℕ → ℕ
open_count [] = 0
open_count (x ∷ xs) = one_if_open x + open_count xs

-- the closings once report j is closed too, after k others
abbrev pub closed_at : List ℕ → ℕ → ℕ → List ℕ
closed_at closings j k = set closings j (far + k)

-- the lengths, and each cell a score or none
pub record Shape (cells : List ℕ) (m n : ℕ) (pairing owner prices discounts : List ℕ) : Type 0 where
  pub cells_long : length cells ≡ n * m
  pub pairing_long : length pairing ≡ n
  pub owner_long : length owner ≡ m
  pub prices_long : length prices ≡ n
  pub discounts_long : length discounts ≡ m
  pub tracks_few : n ≤ most_tracks
  pub reports_few : m ≤ widest
  pub cells_good : (k : ℕ) → k < length cells → IsCell (at cells k)

-- no price less discount above a score
pub record Prices (cells : List ℕ) (m n : ℕ) (prices discounts : List ℕ) : Type 0 where
  pub fair : (i j : ℕ) → i < n → j < m → cell cells m i j < far → at prices i ≤ cell cells m i j + at discounts j
  pub price_in : (i : ℕ) → i < n → at prices i ≤ left_out
  pub discount_in : (j : ℕ) → j < m → at discounts j ≤ left_out

-- report j is track i's, and its price less discount is the score
pub record Own (cells : List ℕ) (m n : ℕ) (pairing prices discounts : List ℕ) (j i : ℕ) : Type 0 where
  pub there : i < n
  pub back : at pairing i ≡ j
  pub admissible : cell cells m i j < far
  pub tight : at prices i ≡ cell cells m i j + at discounts j

-- pairing and owner agree, but for the vacant report (none: there is none); a report that no track has is without discount
pub record Match (cells : List ℕ) (m n : ℕ) (pairing owner prices discounts : List ℕ) (vacant : ℕ) : Type 0 where
  pub owned : (j : ℕ) → j < m → (j ≡ vacant → ⊥) → ((at owner j ≡ none) × (at discounts j ≡ 0)) ⊎ Own cells m n pairing prices discounts j (at owner j)
  pub paired : (i : ℕ) → i < n → (at pairing i ≡ none) ⊎ ((at pairing i < m) × ((at pairing i ≡ vacant → ⊥) × (at owner (at pairing i) ≡ i)))

-- fair prices, and a pairing with no vacant report
pub record Good (cells : List ℕ) (m n : ℕ) (pairing owner prices discounts : List ℕ) : Type 0 where
  pub shape : Shape cells m n pairing owner prices discounts
  pub numbers : Prices cells m n prices discounts
  pub matched : Match cells m n pairing owner prices discounts none

-- a closed report c of track i: the search has gone through it
pub record Closed (cells : List ℕ) (m n : ℕ) (pairing prices discounts : List ℕ) (leaving : ℕ) (labels : List ℕ) (c i : ℕ) : Type 0 where
  pub own : Own cells m n pairing prices discounts c i
  pub low : at labels c ≤ leaving
  pub seen : (j : ℕ) → j < m → cell cells m i j < far → at prices i + at labels j ≤ at labels c + cell cells m i j + at discounts j
  pub leave : leaving + at prices i ≤ at labels c + left_out

-- how report c was reached, from track i
pub record Link (cells : List ℕ) (m n : ℕ) (pairing prices discounts : List ℕ) (track : ℕ) (labels closings : List ℕ) (c i : ℕ) : Type 0 where
  pub there : i < n
  pub admissible : cell cells m i c < far
  pub how : ((i ≡ track) × (at labels c + at prices track ≡ cell cells m i c + at discounts c))
      ⊎ ((at pairing i < m) × ((far ≤ at closings (at pairing i)) × (((at closings c ≡ 0) ⊎ (at closings (at pairing i) < at closings c))
      × (at labels c + at prices i ≡ at labels (at pairing i) + cell cells m i c + at discounts c))))

-- the track whose leaving out costs least, at the label leaving: the one of the search, or one whose report is closed
abbrev pub Leaves : ℕ → ℕ → List ℕ → List ℕ → ℕ → List ℕ → List ℕ → ℕ → ℕ → Type 0
Leaves m n pairing prices track labels closings leaving leaver = ((leaver ≡ track) × (leaving + at prices track ≡ left_out))
    ⊎ ((leaver < n) × ((at pairing leaver < m) × ((far ≤ at closings (at pairing leaver)) × (leaving + at prices leaver ≡ at labels (at pairing leaver) + left_out))))

-- the search from a track: labels, the track via which each report was reached, and the order in which reports were closed
pub record Tree (cells : List ℕ) (m n : ℕ) (pairing owner prices discounts : List ℕ) (track leaving leaver k : ℕ) (labels via closings : List ℕ) : Type 0 where
  pub labels_long : length labels ≡ m
  pub via_long : length via ≡ m
  pub closings_long : length closings ≡ m
  pub labels_in : (j : ℕ) → j < m → at labels j ≤ left_out
  pub open_or_closed : (j : ℕ) → j < m → (at closings j ≡ 0) ⊎ ((far ≤ at closings j) × (at closings j < far + k))
  pub root : (j : ℕ) → j < m → cell cells m track j < far → at prices track + at labels j ≤ cell cells m track j + at discounts j
  pub closed : (c : ℕ) → c < m → far ≤ at closings c → Closed cells m n pairing prices discounts leaving labels c (at owner c)
  pub sorted : (c e : ℕ) → c < m → e < m → far ≤ at closings c → at closings e ≡ 0 → at labels c ≤ at labels e
  pub under : (c : ℕ) → c < m → far ≤ at closings c → at labels c < left_out
  pub leaving_in : leaving + at prices track ≤ left_out
  pub last : Leaves m n pairing prices track labels closings leaving leaver
  pub links : (c : ℕ) → c < m → at labels c < left_out → Link cells m n pairing prices discounts track labels closings c (at via c)
  pub count : k + open_count closings ≡ m

-- track i, at the label from, has offered to every report
pub record Offered (cells : List ℕ) (m : ℕ) (discounts : List ℕ) (from price i : ℕ) (labels via labels' via' : List ℕ) : Type 0 where
  pub labels_long : length labels' ≡ m
  pub via_long : length via' ≡ m
  pub steps : (e : ℕ) → e < m → Step (cell cells m i e) (at discounts e) from price i (at labels e) (at via e) (at labels' e) (at via' e)

-- what offer_from asks: the reports before front are closed
pub record Offerable (cells : List ℕ) (m front i from : ℕ) (prices discounts labels via : List ℕ) : Type 0 where
  pub front_in : front ≤ m
  pub before : (e : ℕ) → e < front → at labels e ≤ from
  pub track_in : i < length prices
  pub cells_long : length cells ≡ length prices * m
  pub cells_good : (k : ℕ) → k < length cells → IsCell (at cells k)
  pub discounts_long : length discounts ≡ m
  pub labels_long : length labels ≡ m
  pub via_long : length via ≡ m
  pub from_in : from ≤ left_out
  pub numbers : Prices cells m (length prices) prices discounts
  pub labels_in : (j : ℕ) → j < m → at labels j ≤ left_out

-- the working lists of a search
pub record SearchLists (m : ℕ) (labels via closings : List ℕ) : Type 0 where
  pub labels_long : length labels ≡ m
  pub via_long : length via ≡ m
  pub closings_long : length closings ≡ m

-- what search asks: a track that is in no pair
pub record Searchable (cells : List ℕ) (m track : ℕ) (pairing owner prices discounts labels via closings : List ℕ) : Type 0 where
  pub good : Good cells m (length prices) pairing owner prices discounts
  pub track_in : track < length prices
  pub unpaired : at pairing track ≡ none
  pub rooms : SearchLists m labels via closings

-- the reports before front are closed
pub record Front (front m : ℕ) (closings : List ℕ) : Type 0 where
  pub upto : front ≤ m
  pub closed : (e : ℕ) → e < front → far ≤ at closings e

-- where a search stands: its tree, the reports closed so far, and the nearest open one; next is no report where none is nearer than
-- leaving a track out
pub record Standing (cells : List ℕ) (m n : ℕ) (pairing owner prices discounts : List ℕ) (track leaving leaver closed front next : ℕ) (labels via closings : List ℕ) : Type 0 where
  pub good : Good cells m n pairing owner prices discounts
  pub tree : Tree cells m n pairing owner prices discounts track leaving leaver closed labels via closings
  pub behind : Front front m closings
  pub nearest : Nearest labels closings leaving next

-- whether next is a report that has a track
abbrev pub is_taken : List ℕ → ℕ → Bool
is_taken owner next = ltb next (length owner) && not (eqb (at owner next) none)

-- what holds of the free report that a search finds, or of the track that it leaves out
abbrev pub OnEnd : End → (ℕ → Type 0) → (ℕ → Type 0) → Type 0
OnEnd (Free report) OfReport OfTrack = OfReport report
OnEnd (LeftOut track) OfReport OfTrack = OfTrack track

-- what end_of asks
pub record Endable (m closed : ℕ) (labels closings : List ℕ) : Type 0 where
  pub labels_long : length labels ≡ m
  pub closings_long : length closings ≡ m
  pub reports_few : m ≤ widest
  pub closed_few : closed ≤ m

-- what it gives: next is free and is closed, at its label; or there is no next, and leaver is left out
pub record EndsAt (m leaving leaver closed next : ℕ) (labels closings closings' : List ℕ) (reach : ℕ) (end : End) : Type 0 where
  pub free : next < m → (reach ≡ at labels next) × ((end ≡ Free next) × (closings' ≡ closed_at closings next closed))
  pub nowhere : m ≤ next → (reach ≡ leaving) × ((end ≡ LeftOut leaver) × (closings' ≡ closings))

-- what a search finds: labels, and the label reach, at which a free report is reached or a track is left out
pub record Ended (cells : List ℕ) (m n : ℕ) (pairing owner prices discounts : List ℕ) (track reach : ℕ) (end : End) (labels via closings : List ℕ) : Type 0 where
  pub labels_long : length labels ≡ m
  pub labels_in : (j : ℕ) → j < m → at labels j ≤ left_out
  pub via_long : length via ≡ m
  pub closings_long : length closings ≡ m
  pub root : (j : ℕ) → j < m → cell cells m track j < far → at prices track + at labels j ≤ cell cells m track j + at discounts j
  pub price_in : reach + at prices track ≤ left_out
  pub near : (c : ℕ) → c < m → at labels c < reach → Closed cells m n pairing prices discounts reach labels c (at owner c)
  pub low : (c : ℕ) → c < m → far ≤ at closings c → at labels c ≤ reach
  pub links : (c : ℕ) → c < m → far ≤ at closings c → Link cells m n pairing prices discounts track labels closings c (at via c)
  pub ends : OnEnd end (λ report. (report < m) × ((at owner report ≡ none) × ((far ≤ at closings report) × (at labels report ≡ reach))))
      (λ leaver. Leaves m n pairing prices track labels closings reach leaver)

-- the reports on the way back: each is tight at the track via which it was reached, and that track's report comes earlier
pub record Tight (cells : List ℕ) (m n : ℕ) (pairing prices discounts : List ℕ) (track : ℕ) (closings : List ℕ) (c i : ℕ) : Type 0 where
  pub there : i < n
  pub admissible : cell cells m i c < far
  pub tight : at prices i ≡ cell cells m i c + at discounts c
  pub next : (i ≡ track) ⊎ ((at pairing i < m) × ((far ≤ at closings (at pairing i)) × (at closings (at pairing i) < at closings c)))

-- up to the report that was closed last
pub record WayBack (cells : List ℕ) (m n : ℕ) (pairing prices discounts : List ℕ) (track : ℕ) (via closings : List ℕ) (bound : ℕ) : Type 0 where
  pub step : (c : ℕ) → c < m → far ≤ at closings c → at closings c ≤ bound → Tight cells m n pairing prices discounts track closings c (at via c)

-- a vacant report, to be given along the way back
pub record Vacant (cells : List ℕ) (m n : ℕ) (prices discounts : List ℕ) (track : ℕ) (via closings pairing owner : List ℕ) (vacant : ℕ) : Type 0 where
  pub vacant_in : vacant < m
  pub vacant_closed : far ≤ at closings vacant
  pub matched : Match cells m n pairing owner prices discounts vacant
  pub way_back : WayBack cells m n pairing prices discounts track via closings (at closings vacant)
  pub unpaired : at pairing track ≡ none

-- no report is vacant, and the track has one
pub record Unbroken (cells : List ℕ) (m n : ℕ) (prices discounts : List ℕ) (track : ℕ) (pairing owner : List ℕ) : Type 0 where
  pub matched : Match cells m n pairing owner prices discounts none
  pub placed : at pairing track < m

-- from one pairing to another: only the track comes in, and no report becomes free
pub record Moved (m n track : ℕ) (pairing owner pairing' owner' : List ℕ) : Type 0 where
  pub came_in : (i : ℕ) → i < n → at pairing' i < m → (at pairing i < m) ⊎ (i ≡ track)
  pub free : (j : ℕ) → j < m → at owner' j ≡ none → at owner j ≡ none

-- a pairing on its way from pairing₀: a report is vacant, or the last one is given
pub record Flips (cells : List ℕ) (m n : ℕ) (prices discounts : List ℕ) (track : ℕ) (via closings pairing₀ owner₀ pairing owner : List ℕ) (vacant : ℕ) : Type 0 where
  pub shape : Shape cells m n pairing owner prices discounts
  pub moved : Moved m n track pairing₀ owner₀ pairing owner
  pub via_long : length via ≡ m
  pub closings_long : length closings ≡ m
  pub track_in : track < n
  pub kept : (i : ℕ) → i < n → at pairing₀ i < m → at pairing i < m
  pub state : Vacant cells m n prices discounts track via closings pairing owner vacant ⊎ ((vacant ≡ none) × Unbroken cells m n prices discounts track pairing owner)

-- and at its end: no track has lost its report
pub record Flipped (cells : List ℕ) (m n : ℕ) (prices discounts : List ℕ) (track : ℕ) (pairing owner pairing' owner' : List ℕ) : Type 0 where
  pub shape : Shape cells m n pairing' owner' prices discounts
  pub moved : Moved m n track pairing owner pairing' owner'
  pub whole : Unbroken cells m n prices discounts track pairing' owner'
  pub kept : (i : ℕ) → i < n → at pairing i < m → at pairing' i < m

-- the track that is left out, at the full price: the one that comes in, or one whose report is closed
abbrev pub OutAtFullPrice : ℕ → ℕ → List ℕ → List ℕ → ℕ → List ℕ → ℕ → Type 0
OutAtFullPrice m n pairing prices track closings leaver = ((leaver ≡ track) × (at prices track ≡ left_out))
    ⊎ ((leaver < n) × ((at pairing leaver < m) × ((far ≤ at closings (at pairing leaver)) × (at prices leaver ≡ left_out))))

-- the pairing is to be changed along the way back from a free report, or from the report of a track that is left out
pub record Finishable (cells : List ℕ) (m n : ℕ) (prices discounts : List ℕ) (track : ℕ) (via closings : List ℕ) (end : End) (pairing owner : List ℕ) : Type 0 where
  pub shape : Shape cells m n pairing owner prices discounts
  pub via_long : length via ≡ m
  pub closings_long : length closings ≡ m
  pub track_in : track < n
  pub unpaired : at pairing track ≡ none
  pub matched : Match cells m n pairing owner prices discounts none
  pub way_back : (b : ℕ) → WayBack cells m n pairing prices discounts track via closings b
  pub ends : OnEnd end (λ report. (report < m) × ((at owner report ≡ none) × (far ≤ at closings report)))
      (λ leaver. OutAtFullPrice m n pairing prices track closings leaver)

-- track i is paired, or left out at the full price
abbrev pub PairedOrOut : ℕ → List ℕ → List ℕ → ℕ → Type 0
PairedOrOut m pairing prices i = (at pairing i < m) ⊎ (at prices i ≡ left_out)

-- the pairing once it is changed: only a track at the full price has lost its report
pub record Finished (cells : List ℕ) (m n : ℕ) (prices discounts : List ℕ) (track : ℕ) (pairing owner pairing' owner' : List ℕ) : Type 0 where
  pub shape : Shape cells m n pairing' owner' prices discounts
  pub moved : Moved m n track pairing owner pairing' owner'
  pub matched : Match cells m n pairing' owner' prices discounts none
  pub done : (i : ℕ) → i < n → at pairing i < m → PairedOrOut m pairing' prices i
  pub track_done : PairedOrOut m pairing' prices track

-- what an insertion gives: fair prices and a pairing again, and the tracks that are done stay so
pub record Inserted (cells : List ℕ) (m n track : ℕ) (pairing prices pairing' owner' prices' discounts' : List ℕ) : Type 0 where
  pub good : Good cells m n pairing' owner' prices' discounts'
  pub done : (i : ℕ) → i < n → PairedOrOut m pairing prices i → PairedOrOut m pairing' prices' i
  pub track_done : PairedOrOut m pairing' prices' track

-- how far the prices rose: of a track in a pair, before it meets the score of a free report, there is left what the search had still to go
pub record Reached (cells : List ℕ) (m n : ℕ) (pairing owner prices labels : List ℕ) (reach : ℕ) (pairing' owner' prices' : List ℕ) : Type 0 where
  pub labels_long : length labels ≡ m
  pub searched : Searched labels reach
  pub free : (j : ℕ) → j < m → at owner' j ≡ none → at owner j ≡ none
  pub rise : (i j : ℕ) → i < n → j < m → at pairing' i < m → at owner' j ≡ none → cell cells m i j < far
      → ((at pairing i < m) × (at prices' i ≡ at prices i)) ⊎ (at prices' i + (at labels j - reach) ≤ cell cells m i j)
