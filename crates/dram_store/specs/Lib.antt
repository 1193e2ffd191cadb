pub mod Bank
pub mod Dram
pub mod State
