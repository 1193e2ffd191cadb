pub mod Since
pub mod Keep
pub mod Report
pub mod Laws
pub mod Covers
pub mod Watch
