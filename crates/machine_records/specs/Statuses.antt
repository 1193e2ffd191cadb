-- How a call ends, as a number.
use Rattle.std.specs.Prelude.{ℕ, ◌≡◌, ◌≢◌, false, Option, Some, None}
use Rattle.board_chipset.specs.declared.check.SetupFault.{SetupFault}
use Rattle.board_chipset.specs.declared.check.SetupFault.TheVariants.{Memory, Cards, Windows, Rom, Disk, NoMemory}
use Rattle.board_chipset.specs.declared.in_range.OutOfRange.{OutOfRange}
use Rattle.board_chipset.specs.declared.in_range.OutOfRange.TheVariants as faults
use Rattle.board_chipset.specs.OutOfRange.{IsFault}
use Rattle.board_chipset.specs.Chipset.{Running}
use Rattle.uart_16550.specs.declared.com1.Happening.{Happening}
use Rattle.uart_16550.specs.declared.com1.Happening.TheVariants.{Comes, Happens}
use Rattle.uart_16550.specs.Uart.{has_room}
use Rattle.uart_16550.specs.Serial.{Serial}
use Rattle.machine.specs.declared.refusal.Refusal.{Refusal}
use Rattle.machine.specs.declared.refusal.Refusal.TheVariants as refusals

abbrev pub ok : ℕ
ok = 0

-- the handle holds no board, or at an open it holds one
abbrev pub bad_handle : ℕ
bad_handle = 1

abbrev pub no_memory : ℕ
no_memory = 2

abbrev pub bad_size : ℕ
bad_size = 3

abbrev pub bad_cards : ℕ
bad_cards = 4

abbrev pub bad_rom : ℕ
bad_rom = 5

abbrev pub bad_disk : ℕ
bad_disk = 6

-- a record names no event
abbrev pub no_event : ℕ
no_event = 7

-- the event is no access of one bus cycle
abbrev pub no_cycle : ℕ
no_cycle = 17

-- there is no disk, or it has no such sector
abbrev pub no_sector : ℕ
no_sector = 18

-- the bytes do not all lie in the installed memory, or in the base of the card
abbrev pub past_end : ℕ
past_end = 19

-- the clock has no byte at this address
abbrev pub no_byte : ℕ
no_byte = 20

-- not as many bytes as the sector, the memory or the disk has
abbrev pub bad_length : ℕ
bad_length = 21

-- the record is that of no reply
abbrev pub no_reply : ℕ
no_reply = 22

-- the text does not fit
abbrev pub no_room : ℕ
no_room = 23

-- COM1 can receive no byte: its queue is full, or loopback is on
abbrev pub serial_full : ℕ
serial_full = 24

-- the clock does not go on: SET holds its time, or its registers say no moment
abbrev pub no_time : ℕ
no_time = 25

-- the bytes are no saved board
abbrev pub bad_image : ℕ
bad_image = 26

-- they are those of a board as another version saved it
abbrev pub other_version : ℕ
other_version = 27

-- the numbers are those of no transfer of a bus master
abbrev pub no_transfer : ℕ
no_transfer = 28

-- how a call ends: it is done; or it is refused with this status, and nothing has changed. That a handle is closed is no
-- status of it
pub record IsOutcome (status : ℕ) (Done Refused Unchanged : Type 0) : Type 0 where
  pub done : status ≡ ok → Done
  pub refused : status ≢ ok → Refused
  pub unchanged : status ≢ ok → Unchanged
  pub not_closed : status ≢ bad_handle

-- why a setup opens no board
abbrev pub setup_status : SetupFault → ℕ
setup_status Memory = bad_size
setup_status Cards = bad_cards
setup_status Windows = bad_cards
setup_status Rom = bad_rom
setup_status Disk = bad_disk
setup_status NoMemory = no_memory

abbrev pub fault_status : OutOfRange → ℕ
fault_status faults.Alignment = 8
fault_status faults.Value = 9
fault_status faults.Bytes = 10
fault_status faults.Aligned = 11
fault_status faults.End = 12
fault_status faults.Pulses = 13
fault_status faults.Date = 14
fault_status faults.Device = 15
fault_status faults.Line = 16

abbrev pub refusal_status : Refusal → ℕ
refusal_status refusals.NoMemory = no_memory
refusal_status refusals.NoRoom = no_room
refusal_status refusals.BadImage = bad_image
refusal_status refusals.OtherVersion = other_version
refusal_status refusals.BadLength = bad_length
refusal_status refusals.PastEnd = past_end

-- the status is that of a refusal by a machine, of which this holds
abbrev pub IsRefusedBy : (Refusal → Type 0) → (status : ℕ) → Type 0
IsRefusedBy P status = (why : Refusal) × P why × (status ≡ refusal_status why)

-- why what a record asks is refused: it asks nothing; COM1 has no room for a byte; or the first field of an event that
-- is out of range
abbrev pub IsEventRefusal : Serial Running → Option Happening → (status : ℕ) → Type 0
IsEventRefusal serial None status = status ≡ no_event
IsEventRefusal serial (Some (Comes byte)) status = (status ≡ serial_full) × (has_room serial.com1.uart ≡ false)
IsEventRefusal serial (Some (Happens event)) status =
    (fault : OutOfRange) × IsFault serial.board.setup event fault × (status ≡ fault_status fault)
