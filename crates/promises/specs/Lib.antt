pub mod Headline
pub mod Accepted
pub mod Laws
pub mod Totality
pub mod Caller
pub mod Images
pub mod Definitions
