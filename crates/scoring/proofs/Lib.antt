-- Laws of the score: the largest number that a test holds of, the position number, the digits.
pub mod Largest
pub mod PositionLaws
pub mod ScoreLaws
pub mod Examples
