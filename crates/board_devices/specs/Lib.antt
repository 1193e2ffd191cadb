pub mod Devices
pub mod Events
pub mod Steps
pub mod Laws
pub mod PulsedPair
pub mod Outside
pub mod State
