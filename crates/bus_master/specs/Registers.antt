-- The registers of a channel of the bus master IDE function, at the offsets 0 to 7 (82371SB, 2.7).
use Rattle.std.specs.Prelude.{ℕ, ◌≡◌, ◌+◌, ◌-◌, ◌*◌, ◌/◌, ◌%◌, ◌^◌, ◌==◌, Bool, if◌then◌else◌, bit_and}
use Rattle.board_spec.specs.Bits.{bit, is_bit, byte, is_within, merged}

-- the command, the status, and the address of the table of physical region descriptors
pub record Master : Type 0 where
  pub command : ℕ
  pub status : ℕ
  pub table : ℕ

abbrev pub master_at_reset : Master
master_at_reset = record { command = 0; status = 0; table = 0 }

-- ---- the command: bit 0 starts, and bit 3 is the direction, 1 from the disk to memory

abbrev pub is_started : Master → Bool
is_started master = is_bit master.command 0

abbrev pub is_to_memory : Master → Bool
is_to_memory master = is_bit master.command 3

abbrev pub command_bits : ℕ
command_bits = 0x09

-- ---- the status: bit 0 active, 1 error, 2 interrupt, and 5 and 6 which drives can do DMA

-- a byte written clears error and interrupt where it has a 1, and leaves active
abbrev pub status_after : (old written : ℕ) → ℕ
status_after old written =
    bit written 6 * 0x40 + bit written 5 * 0x20
    + bit old 2 * (1 - bit written 2) * 4 + bit old 1 * (1 - bit written 1) * 2 + bit old 0

-- ---- the table pointer: a multiple of 4

-- a number of four bytes after its byte k was written
abbrev pub with_byte : (n k written : ℕ) → ℕ
with_byte n k written = n / 256 ^ (k + 1) * 256 ^ (k + 1) + written * 256 ^ k + n % 256 ^ k

abbrev pub table_after : (old k written : ℕ) → ℕ
table_after old k written = with_byte old k written / 4 * 4

abbrev pub IsAligned : Master → Type 0
IsAligned master = master.table % 4 ≡ 0

-- ---- the ports

-- the other offsets read 0
unfoldable pub register_of : Master → (off : ℕ) → ℕ
register_of master off =
    if off == 0 then master.command else
    if off == 2 then master.status else
    if is_within 4 7 off then byte master.table (off - 4) else 0

-- active takes the start bit of each byte written to the command
abbrev pub command_written : Master → (written : ℕ) → Master
command_written master written =
    record master { command = bit_and written command_bits; status = merged 0x01 master.status written }

-- and they ignore writes
unfoldable pub master_written : Master → (off written : ℕ) → Master
master_written master off written =
    if off == 0 then command_written master written else
    if off == 2 then record master { status = status_after master.status written } else
    if is_within 4 7 off then record master { table = table_after master.table (off - 4) written } else master
