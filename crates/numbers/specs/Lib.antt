-- The numbers that document 01 carries, and its arithmetic on them.
pub mod Scales
pub mod Whole
pub mod Azimuth
pub mod Sectors
