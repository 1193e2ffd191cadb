pub mod FixedLemmas
pub mod IdeLemmas
pub mod PiixLemmas
pub mod PortLemmas
pub mod IdeFormat
pub mod SelectLemmas
pub mod RegisterLemmas
mod RouteLemmas
pub mod RoutingFormats
