-- What holds over many calls: the table that is handed on, refused calls, one slot in one call, a track until its turn comes again, how many
-- tracks the next calls find due, and which tracks a call served.
pub mod Table
pub mod Refused
pub mod Slot
pub mod Again
pub mod Ahead
pub mod Told
