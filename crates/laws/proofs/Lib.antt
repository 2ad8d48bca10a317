-- The laws, a file a kind of loop or of number.
pub mod Tests
pub mod Sums
pub mod Search
pub mod Filled
pub mod InPlace
pub mod Fold
pub mod Listed
pub mod Sizes
pub mod Stores
pub mod Parts
pub mod Ranks
pub mod Rounds
pub mod Counts
pub mod Places
