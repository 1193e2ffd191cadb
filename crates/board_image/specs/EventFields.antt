-- The fields of a step, each with the values that it can have after those before it.
use Rattle.std.specs.Prelude.{ℕ, ◌-◌, ◌+◌, ◌%◌, ◌^◌, ◌==◌, Bool, true, false, not, nat_le, ◌&&◌, ◌||◌, if◌then◌else◌}
use Rattle.std.specs.Prelude.{Option, Some, None, is_some}
use Rattle.board_prelude.specs.{w8, w16, w32, w64, Kind, Fetch, Read, Write, Width, One, PortAccess, WideAccess, Moment}
use Rattle.board_prelude.specs.{bytes_of, days_in_month, moment_of, Event, Memory, Wide, Port, Ack, Time, Statement}
use Rattle.board_prelude.specs.{Setup, card_at, is_write, Stimulus, stimulus_form, stimulus_of_code, event_applied}
use Rattle.board_prelude.specs.{option_map}
use Rattle.board_base.specs.declared.access.Width.TheVariants.{Two, Four}
use Rattle.board_base.specs.declared.access.Access.{Access}
use Rattle.board_spec.specs.declared.event.Event.TheVariants.{Look as LookAt}
use Rattle.board_spec.specs.declared.stimulus.Stimulus.TheVariants.{Wire}
use Rattle.board_image.specs.declared.tag.Tag.{Tag}
use Rattle.board_image.specs.declared.tag.Tag.TheVariants as tags
use Rattle.byte_fields.specs.Fields.{Reading, gives, ◌>>=◌, number, number_where, within, flag_field}

abbrev pub kind_of : ℕ → Option Kind
kind_of n = if n == 0 then Some Fetch else if n == 1 then Some Read else if n == 2 then Some Write else None

abbrev pub width_of : ℕ → Option Width
width_of n = if n == 1 then Some One else if n == 2 then Some Two else if n == 4 then Some Four else None

abbrev pub tag_of : ℕ → Option Tag
tag_of n =
    if n == 1 then Some tags.Memory else if n == 2 then Some tags.Port else if n == 3 then Some tags.Look
    else if n == 4 then Some tags.Ack else if n == 6 then Some tags.Time else if n == 10 then Some tags.Wide
    else option_map (λ one. tags.Stimulus one) (stimulus_of_code n)

abbrev pub kind_field : Reading Kind
kind_field = number w8 kind_of

abbrev pub width_field : Reading Width
width_field = number w8 width_of

abbrev pub tag_field : Reading Tag
tag_field = number w8 tag_of

-- ---- accesses

-- the largest value of an access: one that does not write has 0
abbrev pub most_value : (writes : Bool) → (bytes : ℕ) → ℕ
most_value true bytes = 256 ^ bytes - 1
most_value false bytes = 0

unfoldable pub memory_fields : Reading Access
memory_fields = do
  kind ← kind_field
  smm ← flag_field
  width ← width_field
  addr ← number_where w32 (λ addr. addr % bytes_of width == 0)
  value ← within w32 0 (most_value (is_write kind) (bytes_of width))
  gives (record { kind = kind; addr = addr; width = width; smm = smm; value = value })

unfoldable pub port_fields : Reading PortAccess
port_fields = do
  write ← flag_field
  width ← width_field
  port ← number_where w16 (λ port. port % bytes_of width == 0)
  value ← within w32 0 (most_value write (bytes_of width))
  gives (record { write = write; port = port; width = width; value = value })

-- a wide access has 8 bytes, or 2 or 4 that are not aligned, and ends at FFFFFFFFh or below
abbrev pub is_wide_size : ℕ → Bool
is_wide_size bytes = bytes == 2 || bytes == 4 || bytes == 8

abbrev pub is_wide_place : (bytes addr : ℕ) → Bool
is_wide_place bytes addr = (bytes == 8 || not (addr % bytes == 0)) && nat_le (addr + bytes) 0x1_0000_0000

unfoldable pub wide_fields : Reading WideAccess
wide_fields = do
  kind ← kind_field
  smm ← flag_field
  bytes ← number_where w8 is_wide_size
  addr ← number_where w32 (is_wide_place bytes)
  value ← within w64 0 (most_value (is_write kind) bytes)
  gives (record { kind = kind; bytes = bytes; smm = smm; addr = addr; value = value })

-- ---- the other events

unfoldable pub look_fields : Reading Event
look_fields = do
  kind ← kind_field
  smm ← flag_field
  addr ← within w32 0 0xFFFF_FFFF
  gives (LookAt kind addr smm)

unfoldable pub moment_fields : Reading Moment
moment_fields = do
  year ← within w16 1980 2099
  month ← within w8 1 12
  day ← within w8 1 (days_in_month year month)
  hour ← within w8 0 23
  minute ← within w8 0 59
  second ← within w8 0 59
  gives (moment_of year month day hour minute second)

-- the numbers that a stimulus can have: those of a script, and of a wire those of the cards
abbrev pub can_have : Setup → Stimulus → ℕ → Bool
can_have setup Wire dev = is_some (card_at setup dev)
can_have setup one number = (stimulus_form one).numbers number

-- a stimulus: a number of one byte and a level, or a number of four bytes
unfoldable pub applied_fields : Setup → Stimulus → (has_level : Bool) → Reading Event
applied_fields setup one true = do
  number ← number_where w8 (can_have setup one)
  on ← flag_field
  gives (event_applied one number on)
applied_fields setup one false = do
  number ← number_where w32 (can_have setup one)
  gives (event_applied one number false)

-- the fields after a tag
unfoldable pub event_fields : Setup → Tag → Reading Event
event_fields setup tags.Memory = do
  access ← memory_fields
  gives (Memory access)
event_fields setup tags.Port = do
  access ← port_fields
  gives (Port access)
event_fields setup tags.Look = look_fields
event_fields setup tags.Ack = gives Ack
event_fields setup tags.Time = do
  moment ← moment_fields
  gives (Time moment)
event_fields setup tags.Wide = do
  access ← wide_fields
  gives (Wide access)
event_fields setup (tags.Stimulus one) = applied_fields setup one (stimulus_form one).has_level

unfoldable pub step_fields : Setup → Reading Statement
step_fields setup = do
  actor ← within w8 0 7
  tag ← tag_field
  event ← event_fields setup tag
  gives (record { actor = actor; event = event })
