pub mod Loops
pub mod Formats
pub mod Numbers
pub mod Exactly
pub mod Loaded
pub mod PageFormats
