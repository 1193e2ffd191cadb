-- The registers in PCI configuration space, one line a register or a run of them, as the datasheets
-- of the 82441FX (00.0) and the 82371SB (01.0 and 01.1) list them, and the cards' by PCI Local Bus
-- 2.1, section 6.2. What no line lists reads 00 and ignores writes.
use Rattle.std.specs.Prelude.{ℕ, ◌+◌, ◌-◌, ◌^◌, ◌==◌, Bool, ◌&&◌, nat_lt, nat_le, if◌then◌else◌, List, [], ◌∷◌, get_or}
use Rattle.std.specs.Prelude.{length, replicate, flat_map, Option, Some, None, is_some, option_map, unwrap_or}
use Rattle.board_base.specs.declared.target.Reg.{Reg}
use Rattle.device_spec.specs.Routing.{route_mask, route_reset}
use Rattle.board_spec.specs.Setup.{Base, MemoryBase, IoBase, OutsideBase, FittedCard, Setup, card_at}
use Rattle.board_spec.specs.Bits.{long_bytes}
use Rattle.board_spec.specs.RegisterNames.{pam, drb, fdhc, smram, xbcs, pirq, ide_command, idetim, card_command}
use Rattle.board_spec.specs.RegisterNames.{base_register, expansion_rom, interrupt_line}

-- one line: the first offset, the bytes from there on after a reset, and their writable bits.
-- Where the list of writable bits is shorter, the rest is read-only
pub record Line : Type 0 where
  pub first : ℕ
  pub reset : List ℕ
  pub writable : List ℕ

abbrev pub line : ℕ → List ℕ → List ℕ → Line
line first reset writable = record { first = first; reset = reset; writable = writable }

abbrev pub read_only : List ℕ
read_only = []

-- 00.0, the 82441FX host bridge
unfoldable pub host_bridge : List Line
host_bridge =
    line 0x00 (0x86 ∷ 0x80 ∷ 0x37 ∷ 0x12 ∷ []) read_only  -- vendor 8086h, device 1237h
    ∷ line 0x04 (0x06 ∷ 0x00 ∷ 0x80 ∷ 0x02 ∷ []) read_only  -- command, status
    ∷ line 0x08 (0x00 ∷ 0x00 ∷ 0x00 ∷ 0x06 ∷ []) read_only  -- class 060000h
    ∷ line (pam 0).off (0x00 ∷ []) (0x30 ∷ [])
    ∷ line (pam 1).off (replicate 6 0x00) (replicate 6 0x33)  -- PAM1 to PAM6
    ∷ line (drb 0).off (replicate 8 0x01) (replicate 8 0xFF)  -- DRB0 to DRB7
    ∷ line fdhc.off (0x00 ∷ []) (0xC0 ∷ [])
    ∷ line smram.off (0x02 ∷ []) read_only  -- written by the lock rule
    ∷ []

-- 01.0, the ISA bridge of the 82371SB
unfoldable pub isa_bridge : List Line
isa_bridge =
    line 0x00 (0x86 ∷ 0x80 ∷ 0x00 ∷ 0x70 ∷ []) read_only  -- vendor 8086h, device 7000h
    ∷ line 0x04 (0x07 ∷ 0x00 ∷ 0x80 ∷ 0x02 ∷ []) read_only  -- command, status
    ∷ line 0x08 (0x00 ∷ 0x00 ∷ 0x01 ∷ 0x06 ∷ []) read_only  -- class 060100h
    ∷ line 0x0E (0x80 ∷ []) read_only  -- header type: several functions
    ∷ line xbcs.off (0x03 ∷ 0x00 ∷ []) (0xC7 ∷ 0x00 ∷ [])
    ∷ line (pirq 0).off (replicate 4 route_reset) (replicate 4 route_mask)  -- PIRQRCA to PIRQRCD
    ∷ []

-- 01.1, the IDE function of the 82371SB
unfoldable pub ide_function : List Line
ide_function =
    line 0x00 (0x86 ∷ 0x80 ∷ 0x10 ∷ 0x70 ∷ []) read_only  -- vendor 8086h, device 7010h
    ∷ line ide_command.off (0x00 ∷ 0x00 ∷ 0x80 ∷ 0x02 ∷ []) (0x05 ∷ [])  -- command, status
    ∷ line 0x08 (0x00 ∷ 0x80 ∷ 0x01 ∷ 0x01 ∷ []) read_only  -- class 010180h
    ∷ line idetim.off (0x00 ∷ 0x00 ∷ []) (0xFF ∷ 0xFF ∷ [])  -- the primary channel
    ∷ []

-- a base register after a reset: bit 0 tells memory from I/O
abbrev pub base_reset : Base → ℕ
base_reset (MemoryBase bits) = 0
base_reset (IoBase bits) = 1
base_reset (OutsideBase bits) = 0

-- the writable bits of a base register of 2 ^ bits bytes: 31 down to `bits`
abbrev pub base_writable : Base → ℕ
base_writable (MemoryBase bits) = 0x1_0000_0000 - 2 ^ bits
base_writable (IoBase bits) = 0x1_0000_0000 - 2 ^ bits
base_writable (OutsideBase bits) = 0x1_0000_0000 - 2 ^ bits

-- the writable bits of the register of an expansion ROM of 2 ^ bits bytes: 31 down to `bits`, and bit 0,
-- which enables it. Without a ROM there are none
abbrev pub rom_writable : Option ℕ → ℕ
rom_writable None = 0
rom_writable (Some bits) = 0x1_0000_0000 - 2 ^ bits + 1

-- a card. Its bases fill the base address registers in their order
unfoldable pub card_function : FittedCard → List Line
card_function card =
    line 0x00 (0x5A ∷ 0xA5 ∷ card.dev ∷ 0x01 ∷ []) read_only  -- vendor A55Ah, device
    ∷ line (card_command card.dev).off (0x00 ∷ 0x00 ∷ 0x80 ∷ 0x02 ∷ []) (0x07 ∷ [])  -- command, status
    ∷ line 0x08 (0x00 ∷ 0x00 ∷ 0x00 ∷ (if card.vga then 0x03 else 0xFF) ∷ []) read_only  -- class
    -- base addresses
    ∷ line (base_register card.dev 0).off (flat_map (λ base. long_bytes (base_reset base)) card.bases)
    (flat_map (λ base. long_bytes (base_writable base)) card.bases)
    ∷ line (expansion_rom card.dev).off (replicate 4 0x00) (long_bytes (rom_writable card.rom))
    ∷ line (interrupt_line card.dev).off (0x00 ∷ 0x01 ∷ []) (0xFF ∷ [])  -- interrupt line, pin INTA#
    ∷ []

-- the functions of bus 0, which alone exists, each with its lines
abbrev pub function_at : Setup → ℕ → ℕ → Option (List Line)
function_at setup dev fun =
    if dev == 0 && fun == 0 then Some host_bridge else
    if dev == 1 && fun == 0 then Some isa_bridge else
    if dev == 1 && fun == 1 then Some ide_function else
    if fun == 0 then option_map card_function (card_at setup dev) else None

abbrev pub function_exists : Setup → ℕ → ℕ → ℕ → Bool
function_exists setup bus dev fun = bus == 0 && is_some (function_at setup dev fun)

abbrev pub function_lines : Setup → ℕ → ℕ → List Line
function_lines setup dev fun = unwrap_or (function_at setup dev fun) []

-- a column of the table at an offset
abbrev pub listed : (Line → List ℕ) → List Line → ℕ → ℕ
listed column [] off = 0
listed column (entry ∷ later) off =
    if nat_le entry.first off && nat_lt off (entry.first + length entry.reset)
    then get_or (column entry) (off - entry.first) 0
    else listed column later off

-- a register byte after a reset, and the bits of it that a write changes
unfoldable pub reset_byte : Setup → Reg → ℕ
reset_byte setup reg = listed (λ entry. entry.reset) (function_lines setup reg.dev reg.fun) reg.off

unfoldable pub writable_bits : Setup → Reg → ℕ
writable_bits setup reg = listed (λ entry. entry.writable) (function_lines setup reg.dev reg.fun) reg.off
