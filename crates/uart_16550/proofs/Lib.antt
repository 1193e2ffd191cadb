pub mod SerialSteps
pub mod Resets
pub mod CallProofs
pub mod ControlProofs
pub mod Loads
pub mod CardLoads
pub mod StateFormat
pub mod SerialStates
mod SerialAlone
