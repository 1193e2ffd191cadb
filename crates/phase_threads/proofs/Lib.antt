pub mod EndedLines
pub mod OneActs
pub mod OneMore
pub mod Phases
pub mod Numbers
pub mod Told
pub mod Workers
