-- Laws of a sector's sheet.
pub mod Due
pub mod Rows
pub mod SheetLaws
pub mod Answers
