pub mod Ide
pub mod Piix
pub mod PortSelects
pub mod IdeState
pub mod SelectNames
pub mod Routes
pub mod RoutingState
