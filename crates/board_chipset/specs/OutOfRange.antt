-- The first field of an event that is out of range, in the order in which they stand here.
use Rattle.std.specs.Prelude.{ℕ, ◌≡◌, ◌≢◌, ◌+◌, ◌%◌, ◌≤◌, ◌⊎◌, Bool, true, is_some}
use Rattle.board_prelude.specs.{Width, WideAccess, bytes_of, IsMoment, Event, Memory, Wide, Port, Pulses as PulsesOf}
use Rattle.board_prelude.specs.{Time, Wire, Line as LineOf, Setup, card_at, FitsAccess, FitsBytes, is_free_line}
use Rattle.board_prelude.specs.{is_write}
use Rattle.board_chipset.specs.declared.in_range.OutOfRange.{OutOfRange}
use Rattle.board_chipset.specs.declared.in_range.OutOfRange.TheVariants.{Alignment, Value, Bytes, Aligned, End, Pulses}
use Rattle.board_chipset.specs.declared.in_range.OutOfRange.TheVariants.{Date, Device, Line}

-- of an access by one bus cycle: the place is no multiple of the width; and then the value does not fit
abbrev pub IsBusFault : (writes : Bool) (place : ℕ) → Width → (value : ℕ) → OutOfRange → Type 0
IsBusFault writes place width value Alignment = place % bytes_of width ≢ 0
IsBusFault writes place width value Value = (place % bytes_of width ≡ 0) × ¬ FitsAccess writes width value
IsBusFault writes place width value _ = ⊥

abbrev pub IsWideSize : ℕ → Type 0
IsWideSize bytes = (bytes ≡ 2) ⊎ (bytes ≡ 4) ⊎ (bytes ≡ 8)

-- one bus cycle moves the bytes
abbrev pub IsOneCycle : WideAccess → Type 0
IsOneCycle access = (access.bytes ≢ 8) × (access.addr % access.bytes ≡ 0)

abbrev pub EndsWithin : WideAccess → Type 0
EndsWithin access = access.addr + access.bytes ≤ 0x1_0000_0000

-- of a wide access: the count of bytes; then that one cycle moves them; then the end; then the value
abbrev pub IsWideFault : WideAccess → OutOfRange → Type 0
IsWideFault access Bytes = ¬ IsWideSize access.bytes
IsWideFault access Aligned = IsWideSize access.bytes × IsOneCycle access
IsWideFault access End = IsWideSize access.bytes × ¬ IsOneCycle access × ¬ EndsWithin access
IsWideFault access Value =
    IsWideSize access.bytes × ¬ IsOneCycle access × EndsWithin access ×
    ¬ FitsBytes (is_write access.kind) access.bytes access.value
IsWideFault access _ = ⊥

abbrev pub IsFault : Setup → Event → OutOfRange → Type 0
IsFault setup (Memory access) fault = IsBusFault (is_write access.kind) access.addr access.width access.value fault
IsFault setup (Wide access) fault = IsWideFault access fault
IsFault setup (Port access) fault = IsBusFault access.write access.port access.width access.value fault
IsFault setup (PulsesOf count) fault = (fault ≡ Pulses) × ((count ≡ 0) ⊎ (1_000_001 ≤ count))
IsFault setup (Time moment) fault = (fault ≡ Date) × ¬ IsMoment moment
IsFault setup (Wire dev on) fault = (fault ≡ Device) × (is_some (card_at setup dev) ≢ true)
IsFault setup (LineOf line on) fault = (fault ≡ Line) × (is_free_line line ≢ true)
IsFault setup _ fault = ⊥
