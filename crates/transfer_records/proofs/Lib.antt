pub mod Numbers
pub mod Safe
pub mod Rounds
