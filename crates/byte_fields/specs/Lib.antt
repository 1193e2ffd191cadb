pub mod Fields
pub mod Loads
pub mod Pages
