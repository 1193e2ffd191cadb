pub mod Outside
pub mod Seconds
pub mod State
