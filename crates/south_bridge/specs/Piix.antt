-- The registers of the 82371SB in 01.0 and 01.1, but those that route interrupts.
use Rattle.std.specs.Prelude.{◌≡◌, ◌≢◌, ℕ, ◌==◌, ◌<◌, ◌⊎◌, Bool, ◌&&◌, ◌||◌, if◌then◌else◌}
use Rattle.board_prelude.specs.{Reg, Setup, is_bit, reset_byte, Bytes, isa, xbcs as select_register, pirq, lies_in}
use Rattle.board_prelude.specs.{keyboard_data_port, keyboard_command_port, clock_ports, disk_data_port, disk_ports}
use Rattle.board_prelude.specs.{disk_control_port}
use Rattle.south_bridge.specs.Ide.{IdeBytes, IsIdeOf, is_ide_decoded}

-- the bytes that can be written: XBCS, and those of the IDE function
pub record PiixBytes : Type 0 where
  pub xbcs : ℕ
  pub ide : IdeBytes

-- a register of the chip, which is device 1
abbrev pub piix_register : ℕ → ℕ → Reg
piix_register fun off = record { dev = 1; fun = fun; off = off }

-- the offsets of the ISA bridge but PIRQRCA to PIRQRCD
abbrev pub IsOffRouting : ℕ → Type 0
IsOffRouting off = (off < (pirq 0).off) ⊎ ((pirq 3).off < off)

-- the ISA bridge has those registers of function 0, and the IDE function all of 1
abbrev pub IsPiixRegister : (fun off : ℕ) → Type 0
IsPiixRegister fun off = (fun ≡ 0) × IsOffRouting off ⊎ (fun ≡ 1)

-- the registers of the ISA bridge that nothing changes: of those all but XBCS
pub record IsIsaFixed (off : ℕ) : Type 0 where
  pub select : off ≢ select_register.off
  pub routing : IsOffRouting off

-- these are the chip's registers among a board's register bytes. What cannot be written stands as after a reset
pub record IsPiixOf (bytes : Bytes) (piix : PiixBytes) : Type 0 where
  pub xbcs : piix.xbcs ≡ bytes select_register
  pub ide : IsIdeOf bytes piix.ide
  pub fixed : (setup : Setup) (off : ℕ) → IsIsaFixed off → bytes (isa off) ≡ reset_byte setup (isa off)

-- ---- the devices that the chip selects at ports

-- the keyboard controller's ports, the clock's, and those of the primary IDE channel
abbrev pub is_keyboard_port : ℕ → Bool
is_keyboard_port port = port == keyboard_data_port || port == keyboard_command_port

abbrev pub is_clock_port : ℕ → Bool
is_clock_port port = lies_in clock_ports port

abbrev pub is_disk_port : ℕ → Bool
is_disk_port port = port == disk_data_port || lies_in disk_ports port || port == disk_control_port

-- XBCS bit 1 selects the keyboard controller and bit 0 the clock, and the IDE function decodes the disk
abbrev pub is_selected : Bytes → ℕ → Bool
is_selected bytes port =
    if is_keyboard_port port then is_bit (bytes select_register) 1 else
    if is_clock_port port then is_bit (bytes select_register) 0 else
    is_disk_port port && is_ide_decoded bytes
