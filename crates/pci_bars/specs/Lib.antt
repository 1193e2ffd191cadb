pub mod Cards
pub mod Bases
pub mod Claims
pub mod Contents
pub mod State
