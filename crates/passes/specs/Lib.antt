-- What the engine's passes say of a row of the sheet and of the engine's lists.
pub mod Cells
