pub mod Over
pub mod PhaseRun
pub mod Places
pub mod Placing
pub mod Room
pub mod Settled
pub mod Trace
pub mod Written
