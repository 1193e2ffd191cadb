pub mod Config
pub mod State
