pub mod Adds
pub mod Tails
pub mod LinesFrom
pub mod Numbered
pub mod Reading
pub mod Text
pub mod Asked
