-- The access log of a version, 1 or 2: a heading, and a line for each entry of a history.
use Rattle.std.specs.Prelude.{ℕ, ◌+◌, ◌/◌, ◌%◌, ◌==◌, ◌++◌, Bool, true, false, List, [], ◌∷◌, length, flat_map}
use Rattle.std.specs.Prelude.{if◌then◌else◌, Option, Some, None, codes, decimal}
use Rattle.board_base.specs.declared.access.Width.{Width}
use Rattle.board_base.specs.Access.{bytes_of}
use Rattle.board_base.specs.declared.access.Kind.{Kind}
use Rattle.board_base.specs.declared.access.Kind.TheVariants.{Fetch, Read, Write}
use Rattle.board_base.specs.declared.access.WideAccess.{WideAccess}
use Rattle.board_base.specs.declared.access.PortAccess.{PortAccess}
use Rattle.board_base.specs.declared.moment.Moment.{Moment}
use Rattle.board_base.specs.declared.target.Target.{Target}
use Rattle.board_base.specs.declared.target.Denial.{Denial}
use Rattle.std.specs.Option.{option_map_or}
use Rattle.board_base.specs.declared.access.Access.{Access}
use Rattle.board_spec.specs.declared.event.Event.{Event}
use Rattle.board_spec.specs.declared.event.Event.TheVariants.{Memory, Wide, Port, Look as LookAt, Ack, Time}
use Rattle.board_spec.specs.declared.event.Look.{Look}
use Rattle.board_spec.specs.declared.event.Reply.{Reply}
use Rattle.board_spec.specs.declared.event.Reply.TheVariants.{Bus, Parts, Saw}
use Rattle.board_spec.specs.declared.event.Entry.{Entry}
use Rattle.board_spec.specs.declared.stimulus.Applied.{Applied}
use Rattle.board_spec.specs.Stored.{is_write}
use Rattle.board_spec.specs.Stimuli.{stimulus_form, applied_by}
use Rattle.board_spec.specs.WideParts.{parts_list}
use Rattle.board_spec.specs.Text.{space, line_feed, hex_number, hex_word, hex_long, area_text, target_text, denial_text}

-- ---- statements

-- the letter of a width in bytes
abbrev pub size_text : ℕ → List ℕ
size_text bytes =
    if bytes == 1 then codes "b" else if bytes == 2 then codes "w" else if bytes == 4 then codes "d" else codes "q"

abbrev pub width_text : Width → List ℕ
width_text width = size_text (bytes_of width)

abbrev pub kind_text : Kind → List ℕ
kind_text Fetch = codes "f"
kind_text Read = codes "r"
kind_text Write = codes "w"

-- the value of an access that writes, after a space
abbrev pub written_text : Bool → (bytes value : ℕ) → List ℕ
written_text false bytes value = []
written_text true bytes value = space ∷ hex_number bytes value

abbrev pub smm_text : Bool → List ℕ
smm_text false = []
smm_text true = codes " smm"

-- a memory access of this many bytes
abbrev pub memory_text : Kind → (bytes addr value : ℕ) → Bool → List ℕ
memory_text kind bytes addr value smm =
    kind_text kind ++ space ∷ size_text bytes ++ space ∷ hex_long addr
    ++ written_text (is_write kind) bytes value ++ smm_text smm

abbrev pub access_text : Access → List ℕ
access_text access = memory_text access.kind (bytes_of access.width) access.addr access.value access.smm

abbrev pub wide_text : WideAccess → List ℕ
wide_text access = memory_text access.kind access.bytes access.addr access.value access.smm

abbrev pub port_text : PortAccess → List ℕ
port_text access =
    (if access.write then codes "out" else codes "in") ++ space ∷ width_text access.width ++ space
    ∷ hex_word access.port
    ++ written_text access.write (bytes_of access.width) access.value

abbrev pub level_text : Bool → List ℕ
level_text false = codes "0"
level_text true = codes "1"

-- a number in two digits
abbrev pub two_digits : ℕ → List ℕ
two_digits n = (0x30 + n / 10 % 10) ∷ (0x30 + n % 10) ∷ []

abbrev pub moment_text : Moment → List ℕ
moment_text moment =
    two_digits (moment.year / 100) ++ two_digits (moment.year % 100) ++ codes "-"
    ++ two_digits moment.month ++ codes "-"
    ++ two_digits moment.day ++ codes "T" ++ two_digits moment.hour ++ codes ":"
    ++ two_digits moment.minute ++ codes ":"
    ++ two_digits moment.second

-- a stimulus: its word, its number, and its level where it has one
abbrev pub applied_text : Applied → List ℕ
applied_text said =
    let line = stimulus_form said.stimulus in
    line.word ++ space ∷
    (if line.has_level then decimal said.number ++ space ∷ level_text said.on else decimal said.number)

unfoldable pub event_text : Event → List ℕ
event_text (Memory access) = access_text access
event_text (Wide access) = wide_text access
event_text (Port access) = port_text access
event_text (LookAt kind addr smm) = codes "look " ++ kind_text kind ++ space ∷ hex_long addr ++ smm_text smm
event_text Ack = codes "ack"
event_text (Time moment) = codes "moment " ++ moment_text moment
event_text event = option_map_or applied_text (applied_by event) []

-- ---- replies

-- how many bytes the value of a reply has: those of the access, and one for a vector
abbrev pub value_bytes : Event → ℕ
value_bytes (Memory access) = bytes_of access.width
value_bytes (Wide access) = access.bytes
value_bytes (Port access) = bytes_of access.width
value_bytes _ = 1

abbrev pub value_text : ℕ → Option ℕ → List ℕ
value_text bytes None = codes "-"
value_text bytes (Some value) = hex_number bytes value

-- what answered, and what denied it, each after a space
abbrev pub answered_text : Target → Option Denial → List ℕ
answered_text target denial = space ∷ target_text target ++ space ∷ denial_text denial

abbrev pub look_text : Look → List ℕ
look_text look =
    decimal look.version ++ space ∷ hex_long look.lo ++ space ∷ hex_long look.hi ++ space ∷ area_text look.area

unfoldable pub reply_text : (bytes : ℕ) → Reply → List ℕ
reply_text bytes (Bus value target denial) = value_text bytes value ++ answered_text target denial
reply_text bytes (Parts parts value) =
    value_text bytes value ++ flat_map (λ part. answered_text part.target part.denial) (parts_list parts)
reply_text bytes (Saw look) = look_text look

-- ---- lines

-- line n of the log, without its line feed
unfoldable pub line_text : ℕ → Entry → List ℕ
line_text n entry =
    decimal n ++ space ∷ decimal entry.actor ++ codes "." ++ decimal entry.seq ++ space ∷ event_text entry.event
    ++ codes " = " ++ reply_text (value_bytes entry.event) entry.reply

-- the lines of a history, whose newest entry stands first and is written last
unfoldable pub lines_text : List Entry → List ℕ
lines_text [] = []
lines_text (entry ∷ before) = lines_text before ++ line_text (length before + 1) entry ++ line_feed ∷ []

abbrev pub log_text : (version : ℕ) → List Entry → List ℕ
log_text version history = codes "access log " ++ decimal version ++ line_feed ∷ lines_text history
