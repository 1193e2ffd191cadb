-- The registers after a history: configuration mechanism one of PCI Local Bus 2.1, the reset control
-- port of the 82371SB, and the SMRAM register of the 82441FX. Histories are lists of entries with the
-- newest first, so each definition looks back from the last entry.
use Rattle.std.specs.Prelude.{ℕ, ◌+◌, ◌-◌, ◌*◌, ◌/◌, ◌%◌, ◌==◌, max, Bool, false, not, ◌&&◌, nat_le, nat_lt}
use Rattle.std.specs.Prelude.{if◌then◌else◌, List, [], ◌∷◌, Option, Some, None, unwrap_or, option_map, bit_and}
use Rattle.board_base.specs.declared.access.Width.{Width}
use Rattle.board_base.specs.declared.target.Reg.{Reg}
use Rattle.board_base.specs.Access.{bytes_of}
use Rattle.board_spec.specs.declared.event.Event.{Event}
use Rattle.board_spec.specs.declared.event.Event.TheVariants.{Port}
use Rattle.board_spec.specs.declared.event.Entry.{Entry}
use Rattle.board_spec.specs.declared.map_change.MapChange.{MapChange}
use Rattle.board_spec.specs.declared.map_change.MapChange.TheVariants.{Store, Reset}
use Rattle.board_spec.specs.Setup.{Setup}
use Rattle.board_spec.specs.Bits.{bit, is_bit, byte, merged}
use Rattle.board_spec.specs.Ranges.{lies_in}
use Rattle.board_spec.specs.PortNames.{config_address_port, reset_control_port, config_data_ports}
use Rattle.board_spec.specs.RegisterNames.{smram, is_same}
use Rattle.board_spec.specs.RegisterTable.{function_exists, reset_byte, writable_bits}

-- ---- reset control, port 0CF9h

-- what an event writes to the reset control port
abbrev pub control_written : Event → Option ℕ
control_written (Port access) =
    if access.write && access.port == reset_control_port && bytes_of access.width == 1 then Some access.value else None
control_written _ = None

-- a write of this value resets hard where bits 2 and 1 are set and bit 2 was not (82371SB, RC: RCPU and SRST)
abbrev pub is_hard_value : ℕ → ℕ → Bool
is_hard_value control value = is_bit value 2 && is_bit value 1 && not (is_bit control 2)

abbrev pub resets_hard : ℕ → Option ℕ → Bool
resets_hard control None = false
resets_hard control (Some value) = is_hard_value control value

-- the reset control register: the last byte written since the last hard reset, bits 2 and 1 of it
abbrev pub control_after : ℕ → Option ℕ → ℕ
control_after control None = control
control_after control (Some value) = if is_hard_value control value then 0 else bit_and value 0x06

unfoldable pub reset_control : List Entry → ℕ
reset_control [] = 0
reset_control (entry ∷ before) = control_after (reset_control before) (control_written entry.event)

-- an event after a history is a hard reset
abbrev pub is_hard_reset : List Entry → Event → Bool
is_hard_reset before event = resets_hard (reset_control before) (control_written event)

-- ---- the configuration address, port 0CF8h

-- what an event writes to the configuration address port
abbrev pub address_written : Event → Option ℕ
address_written (Port access) =
    if access.write && access.port == config_address_port && bytes_of access.width == 4 then Some access.value else None
address_written _ = None

-- the bits that the configuration address keeps: enable, bus, device, function and register
-- (PCI Local Bus 2.1, Configuration Mechanism #1; 82441FX, CONFADD)
abbrev pub kept_address : ℕ → ℕ
kept_address value = bit_and value 0x80FF_FFFC

-- the configuration address: what was written last since the last hard reset, and 0 where nothing was
unfoldable pub config_address : List Entry → ℕ
config_address [] = 0
config_address (entry ∷ before) =
    if is_hard_reset before entry.event then 0
    else unwrap_or (option_map kept_address (address_written entry.event)) (config_address before)

abbrev pub is_enabled : ℕ → Bool
is_enabled address = is_bit address 31

abbrev pub bus_of : ℕ → ℕ
bus_of address = address / 0x1_0000 % 0x100

abbrev pub device_of : ℕ → ℕ
device_of address = address / 0x800 % 0x20

abbrev pub function_of : ℕ → ℕ
function_of address = address / 0x100 % 8

abbrev pub register_of : ℕ → ℕ
register_of address = address % 0x100

-- ---- configuration writes, ports 0CFCh to 0CFFh

abbrev pub is_config_port : ℕ → Bool
is_config_port port = lies_in config_data_ports port

-- the register at a configuration port, where the address is enabled and its function exists (82441FX, CONFDATA)
abbrev pub config_register : Setup → ℕ → ℕ → Option Reg
config_register setup address port =
    if is_enabled address && function_exists setup (bus_of address) (device_of address) (function_of address)
    then Some (record { dev = device_of address; fun = function_of address; off = register_of address + port % 4 })
    else None

-- the store to configuration space that an event makes
abbrev pub config_store : Setup → ℕ → Event → Option MapChange
config_store setup address (Port access) =
    if access.write && is_config_port access.port
    then option_map (λ reg. Store reg access.width access.value) (config_register setup address access.port)
    else None
config_store setup address _ = None

-- what an event after a history does to the registers in configuration space
abbrev pub register_change : Setup → List Entry → Event → Option MapChange
register_change setup before event =
    if is_hard_reset before event then Some Reset else config_store setup (config_address before) event

-- ---- register bytes

-- a store from `at` on covers a register of the same function
abbrev pub covers : Reg → Width → Reg → Bool
covers at width reg =
    at.dev == reg.dev && at.fun == reg.fun && nat_le at.off reg.off && nat_lt reg.off (at.off + bytes_of width)

-- the SMRAM register. Bits: 6 DOPEN, 5 DCLS, 4 DLCK, 3 SMRAME; 7 reads 0 and 2 to 0 read 010. DLCK stays
-- once it is set, and where it is set DOPEN is 0 (`law_smram` says so bit by bit; 82441FX, SMRAM register)
abbrev pub smram_after : ℕ → ℕ → ℕ
smram_after old written =
    let lock = max (bit old 4) (bit written 4) in
    (1 - lock) * bit written 6 * 0x40 + bit written 5 * 0x20 + lock * 0x10 + bit written 3 * 0x08 + 0x02

-- a register after a byte is written to it
abbrev pub byte_after : Setup → Reg → ℕ → ℕ → ℕ
byte_after setup reg old written =
    if is_same reg smram then smram_after old written else merged (writable_bits setup reg) old written

-- a register after a change. Byte j of a store goes to the offset j after its first
abbrev pub changed_byte : Setup → MapChange → Reg → ℕ → ℕ
changed_byte setup Reset reg old = reset_byte setup reg
changed_byte setup (Store at width value) reg old =
    if covers at width reg then byte_after setup reg old (byte value (reg.off - at.off)) else old

abbrev pub byte_with : Setup → Option MapChange → Reg → ℕ → ℕ
byte_with setup None reg old = old
byte_with setup (Some change) reg old = changed_byte setup change reg old

-- the register byte after a history
unfoldable pub byte_of : Setup → List Entry → Reg → ℕ
byte_of setup [] reg = reset_byte setup reg
byte_of setup (entry ∷ before) reg =
    byte_with setup (register_change setup before entry.event) reg (byte_of setup before reg)
