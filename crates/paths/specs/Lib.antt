-- The state of the engine, and what inserting one track makes of it.
pub mod State
pub mod Held
