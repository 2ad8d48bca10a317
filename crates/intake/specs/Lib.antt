-- What a call is handed: refused by number, or its due tracks listed.
pub mod Refusals
