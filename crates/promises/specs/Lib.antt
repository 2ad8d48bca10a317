-- Words for what the answer of a served call says.
pub mod Words
