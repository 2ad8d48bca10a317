-- What the loops of the other crates compute.
pub mod Lists
pub mod Sums
pub mod Tests
pub mod Places
