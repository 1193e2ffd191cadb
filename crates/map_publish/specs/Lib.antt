pub mod Lists
pub mod Changes
pub mod Sights
pub mod Props
pub mod Fronts
pub mod Names
pub mod Laws
pub mod Published
