pub mod Own
pub mod Given
pub mod Outputs
pub mod Ends
