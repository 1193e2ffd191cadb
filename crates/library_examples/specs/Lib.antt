pub mod Serial
pub mod Images
pub mod Records
pub mod Refusals
pub mod Seconds
