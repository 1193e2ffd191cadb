pub mod Transfers
pub mod Pieces
pub mod Driven
