-- What the referee's word is worth (Theorems), and what leads there.
pub mod Theorems
pub mod Duality
pub mod Same
pub mod FreeReport
pub mod Facts
pub mod Beyond
pub mod Walks
