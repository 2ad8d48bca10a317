-- The text of lines of numbers.
pub mod Text
