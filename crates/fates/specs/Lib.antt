-- What becomes of each report.
pub mod Fates
