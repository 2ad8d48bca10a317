-- The starred examples of 01 hold, and the check's numbers are each met.
pub mod Starred
pub mod Answers
