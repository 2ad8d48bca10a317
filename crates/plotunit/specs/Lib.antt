-- What the four calls tell C.
pub mod Calls
