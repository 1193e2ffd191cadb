pub mod Pmc
pub mod Pam
pub mod Windows
pub mod Control
