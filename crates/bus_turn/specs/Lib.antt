pub mod Views
pub mod Passes
pub mod Turns
pub mod Plays
pub mod Rule
