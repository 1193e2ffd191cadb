-- Events at the borders of what a board can be asked: the last that is in range, and the first that is not.
use Rattle.std.specs.Prelude.{ℕ, true, false}
use Rattle.board_prelude.specs.{Width, One, Kind, Read, Write, Event, Memory, Wide, Port, Ack, Pulses, Time, Wire, Line}
use Rattle.board_prelude.specs.{BadSector, IsInRange, IsScripted, moment_of}
use Rattle.board_base.specs.declared.access.Width.TheVariants.{Two, Four}
use Rattle.board_examples.specs.Devices.{plain_card_board}

abbrev pub IsAsked : Event → Type 0
IsAsked event = IsInRange plain_card_board event

abbrev pub memory : Kind → Width → (addr value : ℕ) → Event
memory kind width addr value = Memory (record { kind = kind; addr = addr; width = width; smm = false; value = value })

abbrev pub wide : Kind → (bytes addr value : ℕ) → Event
wide kind bytes addr value = Wide (record { kind = kind; addr = addr; bytes = bytes; smm = false; value = value })

-- a write to a port
abbrev pub port_write : Width → (at value : ℕ) → Event
port_write width at value = Port (record { write = true; port = at; width = width; value = value })

abbrev pub port : Width → ℕ → Event
port width at = Port (record { write = false; port = at; width = width; value = 0 })

pub record AccessBorders : Type 0 where
  pub aligned : IsAsked (memory Read Two 0x2 0)
  pub unaligned : ¬ IsAsked (memory Read Two 0x1 0)
  pub largest : IsAsked (memory Write One 0x1 0xFF)
  pub too_large : ¬ IsAsked (memory Write One 0x1 0x100)
  pub largest_word : IsAsked (memory Write Two 0x2 0xFFFF)
  pub too_large_word : ¬ IsAsked (memory Write Two 0x2 0x1_0000)
  pub largest_long : IsAsked (memory Write Four 0x4 0xFFFF_FFFF)
  pub too_large_long : ¬ IsAsked (memory Write Four 0x4 0x1_0000_0000)
  pub unaligned_long : ¬ IsAsked (memory Read Four 0x2 0)
  pub no_value : ¬ IsAsked (memory Read Four 0x0 0x1)
  pub aligned_port : IsAsked (port Four 0xCFC)
  pub unaligned_port : ¬ IsAsked (port Four 0xCFA)
  pub unaligned_word : ¬ IsAsked (port Two 0xCFD)
  pub largest_to_port : IsAsked (port_write One 0x70 0xFF)
  pub too_large_to_port : ¬ IsAsked (port_write One 0x70 0x100)

pub record WideBorders : Type 0 where
  pub last : IsAsked (wide Read 8 0xFFFF_FFF8 0)
  pub past_the_end : ¬ IsAsked (wide Read 8 0xFFFF_FFF9 0)
  pub unaligned : IsAsked (wide Read 2 0x1 0)
  pub aligned_word : ¬ IsAsked (wide Read 2 0x2 0)
  pub aligned_long : ¬ IsAsked (wide Read 4 0x4 0)
  pub one_byte : ¬ IsAsked (wide Read 1 0x1 0)
  pub three_bytes : ¬ IsAsked (wide Read 3 0x1 0)
  pub last_long : ¬ IsAsked (wide Read 4 0xFFFF_FFFD 0)
  pub last_word : ¬ IsAsked (wide Read 2 0xFFFF_FFFF 0)
  pub largest_word : IsAsked (wide Write 2 0x1 0xFFFF)
  pub too_large_word : ¬ IsAsked (wide Write 2 0x1 0x1_0000)
  pub largest_of_all : IsAsked (wide Write 8 0x0 0xFFFF_FFFF_FFFF_FFFF)
  pub too_large_of_all : ¬ IsAsked (wide Write 8 0x0 0x1_0000_0000_0000_0000)
  pub largest : IsAsked (wide Write 4 0x2 0xFFFF_FFFF)
  pub too_large : ¬ IsAsked (wide Write 4 0x2 0x1_0000_0000)
  pub no_value : ¬ IsAsked (wide Read 8 0x0 0x1)

pub record OutsideBorders : Type 0 where
  pub one_pulse : IsAsked (Pulses 1)
  pub no_pulse : ¬ IsAsked (Pulses 0)
  pub most_pulses : IsAsked (Pulses 1_000_000)
  pub more_pulses : ¬ IsAsked (Pulses 1_000_001)
  pub fitted : IsAsked (Wire 4 true)
  pub not_fitted : ¬ IsAsked (Wire 5 true)
  pub lines : IsAsked (Line 1 true) × IsAsked (Line 3 true) × IsAsked (Line 7 true) × IsAsked (Line 9 true)
      × IsAsked (Line 12 true) × IsAsked (Line 15 true)
  pub timer : ¬ IsAsked (Line 0 true)
  pub cascade : ¬ IsAsked (Line 2 true)
  pub clock : ¬ IsAsked (Line 8 true)
  pub coprocessor : ¬ IsAsked (Line 13 true)
  pub disk : ¬ IsAsked (Line 14 true)
  pub none : ¬ IsAsked (Line 16 true)

-- ---- moments: the calendar of 1980 to 2099

abbrev pub moment_at : (year month day hour minute second : ℕ) → Event
moment_at year month day hour minute second = Time (moment_of year month day hour minute second)

pub record MomentBorders : Type 0 where
  pub first : IsAsked (moment_at 1980 1 1 0 0 0)
  pub before : ¬ IsAsked (moment_at 1979 12 31 23 59 59)
  pub last : IsAsked (moment_at 2099 12 31 23 59 59)
  pub past : ¬ IsAsked (moment_at 2100 1 1 0 0 0)
  pub no_month : ¬ IsAsked (moment_at 2000 0 1 0 0 0)
  pub month_13 : ¬ IsAsked (moment_at 2000 13 1 0 0 0)
  pub no_day : ¬ IsAsked (moment_at 2000 1 0 0 0 0)
  pub day_32 : ¬ IsAsked (moment_at 2000 1 32 0 0 0)
  pub leap_day : IsAsked (moment_at 2000 2 29 0 0 0)
  pub no_leap_day : ¬ IsAsked (moment_at 2001 2 29 0 0 0)
  pub hour_24 : ¬ IsAsked (moment_at 2000 1 1 24 0 0)
  pub minute_60 : ¬ IsAsked (moment_at 2000 1 1 0 60 0)
  pub second_60 : ¬ IsAsked (moment_at 2000 1 1 0 0 60)
  -- 1 January 1980 was a Tuesday, 3, and is no Wednesday
  pub weekday : ¬ IsAsked (Time (record (moment_of 1980 1 1 0 0 0) { weekday = 4 }))

-- ---- statements of a script

abbrev pub IsStatement : (version cpus actor : ℕ) → Event → Type 0
IsStatement version cpus actor event = IsScripted plain_card_board version cpus
    (record { actor = actor; event = event })

pub record StatementBorders : Type 0 where
  pub last_actor : IsStatement 1 8 7 Ack
  pub past_the_actors : ¬ IsStatement 1 8 8 Ack
  pub last_sector : IsStatement 1 1 0 (BadSector 65_535)
  pub past_the_sectors : ¬ IsStatement 1 1 0 (BadSector 65_536)
  pub wide_in_2 : IsStatement 2 1 0 (wide Read 2 0x1 0)
  pub not_wide_in_1 : ¬ IsStatement 1 1 0 (wide Read 2 0x1 0)
  pub out_of_range : ¬ IsStatement 1 1 0 (Pulses 1_000_001)
