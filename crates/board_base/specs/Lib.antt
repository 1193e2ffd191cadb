pub mod Access
pub mod Bits
pub mod Calendar
