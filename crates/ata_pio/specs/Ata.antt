-- The ATA disk of this crate: its laws. The machine stands in `device_spec`.
pub mod Laws
