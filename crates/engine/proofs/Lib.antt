-- The start and the visits, the certificate at the end, the call's two ends, and what its promise is worth.
pub mod Begin
pub mod Shown
pub mod Serve
pub mod Theorems
