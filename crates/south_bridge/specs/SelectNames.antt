-- The definitions that files above cite, passed on from one place. Declares nothing.
pub use Rattle.south_bridge.specs.Ide.{IdeBytes, IsIdeOf}
pub use Rattle.south_bridge.specs.Piix.{IsIsaFixed, IsPiixOf, IsPiixRegister, PiixBytes}
