-- What the proofs of an insertion share: rows of the sheet, the search's tree, prices that rise, the pairing changed along the way back.
pub mod Rows
pub mod Advance
pub mod Growth
pub mod Raised
pub mod Swap
pub mod Finished
pub mod Same
