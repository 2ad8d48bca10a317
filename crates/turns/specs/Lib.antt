-- Sector calls, one after another.
pub mod Calls
