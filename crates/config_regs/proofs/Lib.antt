pub mod FixedBytes
pub mod SouthStores
pub mod StateFormat
