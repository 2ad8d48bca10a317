-- A sector's score sheet, and the call that gives it.
pub mod Cells
pub mod Call
pub mod Ready
