pub mod EventFields
pub mod ImageFields
pub mod Laws
pub mod ImageBytes
