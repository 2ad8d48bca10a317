-- A pair: admissible or not, and its score (01, 'A pair').
pub mod Zone
pub mod Position
pub mod Score
