-- Laws of the sector call.
pub mod Stepping
pub mod Choosing
pub mod Serving
pub mod Lists
pub mod Answering
