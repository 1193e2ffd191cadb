pub mod Fronts
pub mod Adding
pub mod Changes
pub mod Naming
pub mod Looks
pub mod Sights
