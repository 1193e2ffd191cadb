pub mod Phases
pub mod Fronts
pub mod Counted
pub mod Checked
pub mod Walks
