pub mod Targets
pub mod Puts
pub mod Ready
pub mod Rows
pub mod Cycles
pub mod Values
