-- Worked examples of the machines of the devices.
pub mod Words
pub mod Pair
pub mod Timer
pub mod Clock
pub mod Routing
pub mod Disk
