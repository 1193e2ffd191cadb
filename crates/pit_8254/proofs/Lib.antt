pub mod StateFormat
pub mod Saved
mod Edges
mod Periods
mod Quiet
mod Runs
mod Settled
mod Rising
