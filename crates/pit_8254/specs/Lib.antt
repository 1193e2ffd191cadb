pub mod View
pub mod Quiet
pub mod Runs
pub mod NextRise
pub mod State
