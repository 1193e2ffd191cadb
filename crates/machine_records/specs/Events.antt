-- Which event a record says: none where a number of it names nothing, or does not fit where it goes.
use Rattle.std.specs.Prelude.{ℕ, ◌==◌, ◌%◌, ◌/◌, ◌^◌, nat_lt, nat_le, Bool, true, false, ◌&&◌, if◌then◌else◌, Option}
use Rattle.std.specs.Prelude.{Some, None, option_map, option_and_then}
use Rattle.board_prelude.specs.{Kind, Fetch, Read, Write, Width, One, WideAccess, bytes_of, is_moment, moment_of, Event}
use Rattle.board_prelude.specs.{Memory, Wide, Port, Ack, Time, Stimulus, stimulus_form, stimulus_of_code, event_applied}
use Rattle.board_base.specs.declared.access.Width.TheVariants.{Two, Four}
use Rattle.board_spec.specs.declared.event.Event.TheVariants.{Look as LookAt}
use Rattle.board_spec.specs.declared.stimulus.Stimulus.TheVariants.{Pulses}
use Rattle.uart_16550.specs.declared.com1.Happening.{Happening}
use Rattle.uart_16550.specs.declared.com1.Happening.TheVariants.{Comes, Happens}
use Rattle.machine_records.specs.declared.event.EventRecord.{EventRecord}
use Rattle.machine_records.specs.Numbers.{memory_event, port_event, look_event, ack_event, time_event, serial_event}
use Rattle.machine_records.specs.Numbers.{fetch_kind, read_kind, write_kind}

unfoldable pub kind_said : ℕ → Option Kind
kind_said number =
    if number == fetch_kind then Some Fetch else
    if number == read_kind then Some Read else
    if number == write_kind then Some Write else None

-- a port is read or written, and not fetched from
unfoldable pub direction_said : ℕ → Option Bool
direction_said number =
    if number == read_kind then Some false else
    if number == write_kind then Some true else None

unfoldable pub width_said : (bytes : ℕ) → Option Width
width_said bytes =
    if bytes == 1 then Some One else
    if bytes == 2 then Some Two else
    if bytes == 4 then Some Four else None

-- ---- accesses

abbrev pub wide_access : Kind → EventRecord → WideAccess
wide_access kind said =
    record { kind = kind; bytes = said.bytes; smm = said.smm == 1; addr = said.addr; value = said.value }

-- an access of 1, 2 or 4 bytes: by one bus cycle where it is aligned, and else in parts
unfoldable pub cycle_said : EventRecord → Kind → Width → Option Event
cycle_said said kind width =
    if said.addr % bytes_of width == 0
    then (if nat_lt said.value (2 ^ 32)
    then Some (Memory (record {
      kind = kind;
      addr = said.addr;
      width = width;
      smm = said.smm == 1;
      value = said.value;
    }))
    else None)
    else Some (Wide (wide_access kind said))

-- an access to memory of 1, 2, 4 or 8 bytes
unfoldable pub access_said : EventRecord → Kind → Option Event
access_said said kind =
    if said.bytes == 8 then Some (Wide (wide_access kind said))
    else option_and_then (cycle_said said kind) (width_said said.bytes)

-- an access to one of the 65,536 ports, of 1, 2 or 4 bytes
unfoldable pub port_said : EventRecord → Width → Bool → Option Event
port_said said width write =
    if nat_lt said.addr (2 ^ 16) && nat_lt said.value (2 ^ 32)
    then Some (Port (record { write = write; port = said.addr; width = width; value = said.value }))
    else None

-- ---- what the world outside does

-- a moment with its weekday, where there is such a moment
unfoldable pub moment_said : (year month day hour minute second : ℕ) → Option Event
moment_said year month day hour minute second =
    if is_moment year month day hour minute second
    then Some (Time (moment_of year month day hour minute second)) else None

-- two decimal digits above this many others
abbrev pub two_digits : (digits below : ℕ) → ℕ
two_digits digits below = digits / 10 ^ below % 100

-- year, month, day, hour, minute and second as one number, such as 20261128143000
unfoldable pub digits_said : (digits : ℕ) → Option Event
digits_said digits =
    moment_said (digits / 10 ^ 10) (two_digits digits 8) (two_digits digits 6)
    (two_digits digits 4) (two_digits digits 2) (two_digits digits 0)

-- where the number of a stimulus stands: a count is a value of at most 32 bits, another number is an address
abbrev pub number_said : EventRecord → Stimulus → Option ℕ
number_said said Pulses = if nat_lt said.value (2 ^ 32) then Some said.value else None
number_said said _ = Some said.addr

-- a number of one byte and a level, 0 or 1, or a number alone
abbrev pub applied_said : EventRecord → Stimulus → (number : ℕ) → Option Event
applied_said said one number =
    if (stimulus_form one).has_level
    then (if nat_lt number 256 && nat_le said.value 1 then Some (event_applied one number (said.value == 1)) else None)
    else Some (event_applied one number false)

unfoldable pub stimulus_said : EventRecord → Stimulus → Option Event
stimulus_said said one = option_and_then (applied_said said one) (number_said said one)

-- ---- the event

-- by the number of what is asked: that of a stimulus is in the table of stimuli
unfoldable pub asked_by : EventRecord → Option Event
asked_by said =
    if said.what == memory_event then option_and_then (access_said said) (kind_said said.kind) else
    if said.what == port_event
    then option_and_then (λ width. option_and_then (port_said said width) (direction_said said.kind))
    (width_said said.bytes) else
    if said.what == look_event then option_map (λ kind. LookAt kind said.addr (said.smm == 1)) (kind_said said.kind)
    else
    if said.what == ack_event then Some Ack else
    if said.what == time_event then digits_said said.value else
    option_and_then (stimulus_said said) (stimulus_of_code said.what)

-- what is kept for later versions is 0, and the flag of management mode 0 or 1
abbrev pub is_plain : EventRecord → Bool
is_plain said = (said.reserved == 0) && nat_le said.smm 1

unfoldable pub event_said : EventRecord → Option Event
event_said said = if is_plain said then asked_by said else None

-- ---- an event, or a byte that COM1 receives

unfoldable pub byte_said : EventRecord → Option Happening
byte_said said = if is_plain said && nat_lt said.value 256 then Some (Comes said.value) else None

unfoldable pub asked_said : EventRecord → Option Happening
asked_said said =
    if said.what == serial_event then byte_said said else option_map (λ event. Happens event) (event_said said)
