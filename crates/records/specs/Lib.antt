-- A slot and a report: their bytes, their fields, and the rules of the fields.
pub mod Fields
pub mod Bytes
