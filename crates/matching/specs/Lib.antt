-- The referee: what a pairing is and when it is best, and what the check answers.
pub mod Pairing
pub mod Answer
