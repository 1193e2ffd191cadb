-- Events that are in range: what a bus can ask, and what the world outside can do.
use Rattle.std.specs.Prelude.{ℕ, ◌≡◌, ◌≢◌, ◌+◌, ◌%◌, ◌^◌, ◌<◌, ◌≤◌, ◌⊎◌, ◌==◌, Bool, true, false, ◌||◌, is_some}
use Rattle.board_base.specs.declared.access.Width.{Width}
use Rattle.board_base.specs.declared.access.WideAccess.{WideAccess}
use Rattle.board_base.specs.Access.{bytes_of, largest_of}
use Rattle.board_base.specs.Calendar.{IsMoment}
use Rattle.board_spec.specs.declared.event.Event.{Event}
use Rattle.board_spec.specs.declared.event.Event.TheVariants.{Memory, Wide, Port, Pulses, Time, Wire, Line, BadSector}
use Rattle.board_spec.specs.declared.event.Statement.{Statement}
use Rattle.board_spec.specs.Setup.{Setup, card_at}
use Rattle.board_spec.specs.Bits.{is_within}
use Rattle.board_spec.specs.Stored.{is_write}

-- a value fits the width of its access, and is 0 where nothing is written
abbrev pub FitsAccess : (writes : Bool) → Width → ℕ → Type 0
FitsAccess true width value = value ≤ largest_of width
FitsAccess false width value = value ≡ 0

-- an access to memory or to a port: its place is a multiple of its width, and its value fits
pub record IsBusAccess (writes : Bool) (place : ℕ) (width : Width) (value : ℕ) : Type 0 where
  pub aligned : place % bytes_of width ≡ 0
  pub fits : FitsAccess writes width value

-- a value of this many bytes, which is 0 where nothing is written
abbrev pub FitsBytes : (writes : Bool) → (bytes value : ℕ) → Type 0
FitsBytes true bytes value = value < 256 ^ bytes
FitsBytes false bytes value = value ≡ 0

-- a wide access: 8 bytes, or 2 or 4 that are not aligned, which end at FFFFFFFFh or below
pub record IsWideAccess (access : WideAccess) : Type 0 where
  pub bytes : (access.bytes ≡ 2) ⊎ (access.bytes ≡ 4) ⊎ (access.bytes ≡ 8)
  pub wide : (access.bytes ≡ 8) ⊎ (access.addr % access.bytes ≢ 0)
  pub ends : access.addr + access.bytes ≤ 0x1_0000_0000
  pub fits : FitsBytes (is_write access.kind) access.bytes access.value

-- the interrupt lines that `irq` sets: all but those of the timer, the cascade, the clock, line 13 and the disk
abbrev pub is_free_line : ℕ → Bool
is_free_line line = line == 1 || is_within 3 7 line || is_within 9 12 line || line == 15

abbrev pub IsInRange : Setup → Event → Type 0
IsInRange setup (Memory access) = IsBusAccess (is_write access.kind) access.addr access.width access.value
IsInRange setup (Wide access) = IsWideAccess access
IsInRange setup (Port access) = IsBusAccess access.write access.port access.width access.value
IsInRange setup (Pulses count) = (1 ≤ count) × (count ≤ 1_000_000)
IsInRange setup (Time moment) = IsMoment moment
IsInRange setup (Wire dev on) = is_some (card_at setup dev) ≡ true
IsInRange setup (Line line on) = is_free_line line ≡ true
IsInRange setup _ = Unit {0}

-- ---- what a script promises besides

abbrev pub IsScriptSector : Event → Type 0
IsScriptSector (BadSector sector) = sector < 0x1_0000
IsScriptSector _ = Unit {0}

-- version 1 of scripts has no wide accesses
abbrev pub IsInVersion : ℕ → Event → Type 0
IsInVersion version (Wide access) = version ≡ 2
IsInVersion version _ = Unit {0}

-- a statement of a script of this version with this many processors
pub record IsScripted (setup : Setup) (version cpus : ℕ) (statement : Statement) : Type 0 where
  pub actor : statement.actor < cpus
  pub event : IsInRange setup statement.event
  pub sector : IsScriptSector statement.event
  pub said : IsInVersion version statement.event
