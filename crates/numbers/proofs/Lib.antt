-- Laws of the numbers: the rules in the library's words, and what callers cite.
pub mod Forms
pub mod WholeLaws
pub mod AzimuthLaws
pub mod SectorLaws
