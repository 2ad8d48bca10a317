-- Laws of what becomes of a track.
pub mod GainLaws
pub mod Smoothing
pub mod Waits
pub mod HandedOn
