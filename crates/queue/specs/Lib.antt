-- The slacks that let all pairs rise together.
pub mod State
pub mod Held
