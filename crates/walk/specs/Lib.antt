-- The table after pairing.
pub mod Table
pub mod Ready
