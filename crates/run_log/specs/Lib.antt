pub mod Cuts
pub mod Counts
pub mod Lines
pub mod Pieces
