pub mod Levels
pub mod Priorities
pub mod PairLaws
pub mod PitPeriods
pub mod PitPulses
mod PortLaws
pub mod RoutingLaws
