-- What the passes' proofs share: keys of score and report, and a search from front on.
pub mod From
pub mod Keys
