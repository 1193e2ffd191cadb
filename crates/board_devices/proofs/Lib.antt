pub mod DeviceLemmas
mod ChipSteps
mod PulseLemmas
mod StandingLines
mod HeardLines
pub mod StateFormat
pub mod DiskSizes
pub mod OutsideLemmas
