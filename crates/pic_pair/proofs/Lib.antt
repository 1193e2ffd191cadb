pub mod StateFormat
mod LineLemmas
mod ChipLemmas
pub mod LevelLemmas
pub mod Orders
