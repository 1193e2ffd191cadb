pub mod Standing
pub mod CallerTurns
pub mod Opening
pub mod Histories
pub mod Limits
