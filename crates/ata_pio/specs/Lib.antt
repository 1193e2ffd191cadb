pub mod Ata
pub mod DriveState
pub mod State
pub mod View
pub mod Words
