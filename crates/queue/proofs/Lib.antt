-- What all pairs may rise by, track by track, and after they have risen.
pub mod Rise
