-- The laws of lines of numbers.
pub mod Numerals
pub mod Writing
