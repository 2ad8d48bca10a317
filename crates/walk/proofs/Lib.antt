-- Laws of the table after pairing, and of the loops that settle it.
pub mod Slots
pub mod Settled
pub mod Walks
