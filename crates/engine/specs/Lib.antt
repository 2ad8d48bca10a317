-- What the pairing call promises, and the state of the engine behind it.
pub mod Call
pub mod State
pub mod Held
