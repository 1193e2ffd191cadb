-- The lemmas and definitions that proofs above cite, passed on from one place. Declares nothing.
pub use Rattle.host_bridge.proofs.PmcLemmas.{reset_byte-small, rows_after_store, there}
pub use Rattle.host_bridge.proofs.TableLemmas.{row_bytes, rows_are, writable_bits-fixed}
