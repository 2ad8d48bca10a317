-- What becomes of one track after pairing (01, 'After pairing').
pub mod Gains
pub mod Settle
