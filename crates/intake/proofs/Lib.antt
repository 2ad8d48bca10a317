-- What a call may count on once nothing is refused.
pub mod Numbers
pub mod SlotWalk
pub mod Readiness
