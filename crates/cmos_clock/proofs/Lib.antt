pub mod Following
pub mod StateFormat
