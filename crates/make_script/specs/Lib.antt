pub mod MakeText
pub mod MadeScript
pub mod Images
pub mod Summary
pub mod Laws
pub mod Counts
