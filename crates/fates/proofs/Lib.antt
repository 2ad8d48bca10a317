-- What becomes of each report: laws.
pub mod Telling
pub mod Starts
pub mod Answers
