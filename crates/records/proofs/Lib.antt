-- Laws of slots and reports: what a checked one keeps, and that bytes and numbers say the same.
pub mod Checked
pub mod RoundTrips
pub mod Packed
