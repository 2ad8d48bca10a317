-- What one call of a sector promises: refusals, pairings, the three calls, what reports are told, each slot after it, the
-- answer entry by entry, counts.
pub mod Calls
pub mod Pairings
pub mod Together
pub mod Reports
pub mod Slots
pub mod Answers
pub mod Counts
pub mod Held
