pub mod Boards
pub mod NoBytes
