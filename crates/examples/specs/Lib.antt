-- The starred examples of 01, as one table of tests.
pub mod Starred
