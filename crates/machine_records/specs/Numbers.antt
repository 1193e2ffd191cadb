-- The numbers by which a record names an enum's cases. 0 names none: a record of zeros says nothing.
use Rattle.std.specs.Prelude.{ℕ, ◌==◌, Bool, true, false, if◌then◌else◌}
use Rattle.board_prelude.specs.{Dev, Pic0, Pic1, Pit, System, Keyboard, Elcr, Ata, Wires, Vector, Spurious}
use Rattle.board_base.specs.declared.target.Dev.TheVariants.{Confadd, Reset, Clock}
use Rattle.board_chipset.specs.declared.reset_control.ResetKind.{ResetKind}
use Rattle.board_chipset.specs.declared.reset_control.ResetKind.TheVariants.{None as NoReset, Soft, Hard}

-- ---- what is asked: also each stimulus, by its number in the table of stimuli

abbrev pub memory_event : ℕ
memory_event = 1

abbrev pub port_event : ℕ
port_event = 2

abbrev pub look_event : ℕ
look_event = 3

abbrev pub ack_event : ℕ
ack_event = 4

abbrev pub time_event : ℕ
time_event = 6

-- COM1 receives a byte
abbrev pub serial_event : ℕ
serial_event = 10

-- ---- the kind of an access

abbrev pub fetch_kind : ℕ
fetch_kind = 1

abbrev pub read_kind : ℕ
read_kind = 2

abbrev pub write_kind : ℕ
write_kind = 3

-- ---- the bases of a card

abbrev pub memory_base : ℕ
memory_base = 1

abbrev pub io_base : ℕ
io_base = 2

abbrev pub outside_base : ℕ
outside_base = 3

abbrev pub most_bases : ℕ
most_bases = 6

-- ---- what answered

abbrev pub dram_target : ℕ
dram_target = 1

abbrev pub shadow_target : ℕ
shadow_target = 2

abbrev pub smram_target : ℕ
smram_target = 3

abbrev pub rom_target : ℕ
rom_target = 4

abbrev pub card_target : ℕ
card_target = 5

abbrev pub device_target : ℕ
device_target = 6

abbrev pub config_target : ℕ
config_target = 7

abbrev pub abort_target : ℕ
abort_target = 8

-- a device of the board. The 8259A numbered 0 is the master
abbrev pub device_number : Dev → ℕ
device_number Confadd = 1
device_number Reset = 2
device_number Pic0 = 3
device_number Pic1 = 4
device_number Pit = 5
device_number System = 6
device_number Keyboard = 7
device_number Clock = 8
device_number Elcr = 9
device_number Ata = 10
device_number Wires = 11
device_number (Vector chip) = if chip == 0 then 12 else 13
device_number (Spurious chip) = if chip == 0 then 14 else 15

-- the UART of COM1, which is no device of the board itself
abbrev pub uart_device : ℕ
uart_device = 16

-- ---- what denied an access

abbrev pub register_denial : ℕ
register_denial = 1

abbrev pub confadd_denial : ℕ
confadd_denial = 2

abbrev pub no_register_denial : ℕ
no_register_denial = 3

-- ---- which reply it is

abbrev pub bus_reply : ℕ
bus_reply = 1

abbrev pub parts_reply : ℕ
parts_reply = 2

abbrev pub look_reply : ℕ
look_reply = 3

-- ---- resets and flags

abbrev pub reset_number : ResetKind → ℕ
reset_number NoReset = 0
reset_number Soft = 1
reset_number Hard = 2

abbrev pub flag : Bool → ℕ
flag false = 0
flag true = 1
