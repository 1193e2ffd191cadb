pub mod Texts
pub mod Output
pub mod Puts
pub mod Outcomes
pub mod Statuses
