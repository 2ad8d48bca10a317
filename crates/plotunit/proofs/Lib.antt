-- Laws of the C border.
pub mod Telling
pub mod OneResult
