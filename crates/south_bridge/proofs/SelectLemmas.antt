-- The lemmas and definitions that proofs above cite, passed on from one place. Declares nothing.
pub use Rattle.south_bridge.proofs.FixedLemmas.{IsFixedAt, kept_byte}
pub use Rattle.south_bridge.proofs.PiixLemmas.{fixed_at}
