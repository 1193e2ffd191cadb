-- Worked examples of records, by the numbers of include/board.h, which stand here once more on purpose.
use Rattle.std.specs.Prelude.{ℕ, ◌≡◌, true, false, Some, None}
use Rattle.board_prelude.specs.{Fetch, Read, Write, One, Memory, Wide, Port, Ack, Pulses, Time, Wire, Line, BadSector}
use Rattle.board_base.specs.declared.access.Width.TheVariants.{Two, Four}
use Rattle.board_spec.specs.declared.event.Event.TheVariants.{Look as LookAt}
use Rattle.uart_16550.specs.declared.com1.Happening.TheVariants.{Comes}
use Rattle.machine_records.specs.declared.event.EventRecord.{EventRecord}
use Rattle.machine_records.specs.Events.{event_said, asked_said}

-- a record of what is asked, with a value, and with neither SMM nor anything reserved
abbrev pub asks : (what kind bytes addr value : ℕ) → EventRecord
asks what kind bytes addr value =
    record { value = value; addr = addr; what = what; kind = kind; bytes = bytes; smm = 0; reserved = 0 }

-- Records of accesses to memory: BOARD_MEMORY is 1, and of the kinds BOARD_FETCH is 1, BOARD_READ 2 and BOARD_WRITE 3
pub record MemorySaid : Type 0 where
  pub fetch :
      event_said (asks 1 1 4 0xFFFF_FFF0 0)
      ≡ Some (Memory (record { kind = Fetch; addr = 0xFFFF_FFF0; width = Four; smm = false; value = 0 }))
  pub read :
      event_said (asks 1 2 2 0xA_0000 0)
      ≡ Some (Memory (record { kind = Read; addr = 0xA_0000; width = Two; smm = false; value = 0 }))
  pub write :
      event_said (asks 1 3 1 0xA_0001 0x5A)
      ≡ Some (Memory (record { kind = Write; addr = 0xA_0001; width = One; smm = false; value = 0x5A }))
  pub in_smm :
      event_said (record (asks 1 1 1 0xA_0000 0) { smm = 1 })
      ≡ Some (Memory (record { kind = Fetch; addr = 0xA_0000; width = One; smm = true; value = 0 }))
  pub wide :
      event_said (record (asks 1 2 8 0x1000 0) { smm = 1 })
      ≡ Some (Wide (record { kind = Read; addr = 0x1000; bytes = 8; smm = true; value = 0 }))
  pub unaligned :
      event_said (asks 1 3 4 0x1002 0x0403_0201)
      ≡ Some (Wide (record { kind = Write; addr = 0x1002; bytes = 4; smm = false; value = 0x0403_0201 }))
  pub no_kind_0 : event_said (asks 1 0 1 0 0) ≡ None
  pub no_kind_4 : event_said (asks 1 4 1 0 0) ≡ None
  pub no_smm_2 : event_said (record (asks 1 2 1 0 0) { smm = 2 }) ≡ None
  pub no_three_bytes : event_said (asks 1 2 3 0 0) ≡ None

-- Records of every other kind but a moment: BOARD_PORT is 2, BOARD_LOOK 3, and so on up to BOARD_SERIAL, 10
pub record OthersSaid : Type 0 where
  pub input :
      event_said (asks 2 2 4 0xCFC 0) ≡ Some (Port (record { write = false; port = 0xCFC; width = Four; value = 0 }))
  pub output :
      event_said (asks 2 3 1 0x70 0x0B) ≡ Some (Port (record { write = true; port = 0x70; width = One; value = 0x0B }))
  pub no_fetch_from_a_port : event_said (asks 2 1 1 0x70 0) ≡ None
  pub look_fetch : event_said (asks 3 1 0 0xA_0000 0) ≡ Some (LookAt Fetch 0xA_0000 false)
  pub look_read : event_said (record (asks 3 2 0 0xA_0000 0) { smm = 1 }) ≡ Some (LookAt Read 0xA_0000 true)
  pub acknowledge : event_said (asks 4 0 0 0 0) ≡ Some Ack
  pub pulses : event_said (asks 5 0 0 0 3) ≡ Some (Pulses 3)
  pub wire : event_said (asks 7 0 0 4 1) ≡ Some (Wire 4 true)
  pub line : event_said (asks 8 0 0 5 0) ≡ Some (Line 5 false)
  pub bad_sector : event_said (asks 9 0 0 6 0) ≡ Some (BadSector 6)
  pub serial : asked_said (asks 10 0 0 0 0x41) ≡ Some (Comes 0x41)
  pub nothing : event_said (asks 0 0 0 0 0) ≡ None

-- Records of a moment: BOARD_TIME is 6, and the digits are those of the year, the month, the day, the hour, the minute
-- and the second: 28 November 2026, a Saturday, which is 7, at 14:30:59. There is no hour 24, and no minute 60
pub record TimeSaid : Type 0 where
  pub moment :
      event_said (asks 6 0 0 0 20_261_128_143_059)
      ≡ Some
      (Time (record { year = 2026; month = 11; day = 28; weekday = 7; hour = 14; minute = 30; second = 59 }))
  pub last_hour : event_said (asks 6 0 0 0 20_261_128_240_000) ≡ None
  pub last_minute : event_said (asks 6 0 0 0 20_261_128_006_000) ≡ None

-- The last number that goes where it is said, and the first that does not: 65,536 ports, values of 32 bits but for a
-- wide access, devices and lines of one byte, levels 0 and 1
pub record RecordBorders : Type 0 where
  pub port :
      event_said (asks 2 2 1 0xFFFF 0) ≡ Some (Port (record { write = false; port = 0xFFFF; width = One; value = 0 }))
  pub no_port : event_said (asks 2 2 1 0x1_0000 0) ≡ None
  pub to_port :
      event_said (asks 2 3 4 0xCF8 0xFFFF_FFFF)
      ≡ Some (Port (record { write = true; port = 0xCF8; width = Four; value = 0xFFFF_FFFF }))
  pub no_value_to_port : event_said (asks 2 3 4 0xCF8 0x1_0000_0000) ≡ None
  pub to_memory :
      event_said (asks 1 3 4 0x1000 0xFFFF_FFFF)
      ≡ Some (Memory (record { kind = Write; addr = 0x1000; width = Four; smm = false; value = 0xFFFF_FFFF }))
  pub no_value_to_memory : event_said (asks 1 3 4 0x1000 0x1_0000_0000) ≡ None
  pub pulses : event_said (asks 5 0 0 0 0xFFFF_FFFF) ≡ Some (Pulses 0xFFFF_FFFF)
  pub no_pulses : event_said (asks 5 0 0 0 0x1_0000_0000) ≡ None
  pub device : event_said (asks 7 0 0 255 1) ≡ Some (Wire 255 true)
  pub no_device : event_said (asks 7 0 0 256 1) ≡ None
  pub line : event_said (asks 8 0 0 255 0) ≡ Some (Line 255 false)
  pub no_line : event_said (asks 8 0 0 256 0) ≡ None
  pub no_level : event_said (asks 8 0 0 5 2) ≡ None
  pub byte : asked_said (asks 10 0 0 0 0xFF) ≡ Some (Comes 0xFF)
  pub no_byte : asked_said (asks 10 0 0 0 0x100) ≡ None
  pub reserved : event_said (record (asks 4 0 0 0 0) { reserved = 1 }) ≡ None
  pub serial_reserved : asked_said (record (asks 10 0 0 0 0x41) { reserved = 1 }) ≡ None
