-- What a monitor asks of the clock, and what it writes to it, from outside the bus.
use Rattle.std.specs.Prelude.{ℕ}
use Rattle.device_spec.specs.Clock.{Clock, after_write, read_value}
use Rattle.device_spec.specs.PortNames.{clock_index_port, clock_data_port}

-- The byte that a processor would read that writes the address to port 70h and then reads port 71h.
abbrev pub peeked : Clock → (address : ℕ) → ℕ
peeked clock address = read_value (after_write clock clock_index_port address) clock_data_port

-- A byte was written at an address: as if a processor had written the address to port 70h, the byte to port 71h, and
-- then the index as it was before to port 70h.
abbrev pub with_byte : Clock → (address byte : ℕ) → Clock
with_byte clock address byte =
    after_write (after_write (after_write clock clock_index_port address) clock_data_port byte)
    clock_index_port clock.index
