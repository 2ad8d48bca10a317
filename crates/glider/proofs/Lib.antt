-- What the old filter loses, every best pairing keeps.
pub mod Story
pub mod Shown
pub mod Filter
