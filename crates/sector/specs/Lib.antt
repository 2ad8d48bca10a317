-- The sector call.
pub mod Sum
pub mod Steps
pub mod Serve
pub mod Settled
pub mod Lists
