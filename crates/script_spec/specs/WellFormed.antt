-- Entries whose line in the log of a version says all that they are.
use Rattle.std.specs.Prelude.{ℕ, ◌≡◌, ◌<◌, ◌^◌, Bool, true, false, length, All, Option, Some, None, IfSome}
use Rattle.board_prelude.specs.{Reg, Dev, Area, Target, Dram, Shadow, Rom, Card, Device, Config, Denial, Register}
use Rattle.board_prelude.specs.{IsMoment, bytes_of, Event, Memory, Wide, Port, Ack, Time, stimulus_form, applied_by}
use Rattle.board_prelude.specs.{Look, Part, Reply, Bus, Saw, Entry, is_write, parts_of, parts_list, answers_outside}
use Rattle.board_prelude.specs.{outside_answer}
use Rattle.board_base.specs.declared.target.Dev.TheVariants as devices
use Rattle.board_base.specs.declared.target.Area.TheVariants as areas
use Rattle.board_spec.specs.declared.event.Event.TheVariants.{Look as LookAt}
use Rattle.board_spec.specs.declared.event.Reply.TheVariants.{Parts as InParts}
use Rattle.script_spec.specs.Grammar.{IsDecimal, IsEventForm}
use Rattle.script_spec.specs.Reasons.{is_event_placed}

-- ---- what a reply names

abbrev pub FitsReg : Reg → Type 0
FitsReg reg = (reg.dev < 0x100) × (reg.fun < 0x10) × (reg.off < 0x100)

-- rows, cards and bases have one digit
abbrev pub FitsArea : Area → Type 0
FitsArea (areas.Dram row) = row < 10
FitsArea (areas.Shadow row) = row < 10
FitsArea (areas.Card dev base) = (dev < 10) × (base < 10)
FitsArea _ = Unit {0}

-- the chips of the 8259A pair are 0 and 1
abbrev pub FitsDevice : Dev → Type 0
FitsDevice (devices.Vector chip) = chip < 2
FitsDevice (devices.Spurious chip) = chip < 2
FitsDevice _ = Unit {0}

abbrev pub FitsTarget : Target → Type 0
FitsTarget (Dram row) = row < 10
FitsTarget (Shadow row) = row < 10
FitsTarget (Rom off) = off < 0x10_0000
FitsTarget (Card dev base off) = (dev < 10) × (base < 10) × (off < 2 ^ 32)
FitsTarget (Device dev) = FitsDevice dev
FitsTarget (Config reg) = FitsReg reg
FitsTarget _ = Unit {0}

abbrev pub FitsDenial : Option Denial → Type 0
FitsDenial (Some (Register reg)) = FitsReg reg
FitsDenial _ = Unit {0}

abbrev pub FitsPart : Part → Type 0
FitsPart part = FitsTarget part.target × FitsDenial part.denial

-- an access that writes has no value in its reply, one that reads has one of this many bytes
abbrev pub IsReplyValue : (writes : Bool) → (bytes : ℕ) → Option ℕ → Type 0
IsReplyValue true bytes value = value ≡ None
IsReplyValue false bytes None = ⊥
IsReplyValue false bytes (Some n) = n < 256 ^ bytes

-- ---- the shapes of replies

abbrev pub IsBusReply : (writes : Bool) → (bytes : ℕ) → Reply → Type 0
IsBusReply writes bytes (Bus value target denial) =
    IsReplyValue writes bytes value × FitsTarget target × FitsDenial denial
IsBusReply writes bytes _ = ⊥

-- a wide access has a target and a denial for each of its parts
abbrev pub IsWideReply : (writes : Bool) → (bytes parts : ℕ) → Reply → Type 0
IsWideReply writes bytes parts (InParts replies value) =
    IsReplyValue writes bytes value × All FitsPart (parts_list replies) × (length (parts_list replies) ≡ parts)
IsWideReply writes bytes parts _ = ⊥

abbrev pub FitsLook : Look → Type 0
FitsLook look = IsDecimal look.version × (look.lo < 2 ^ 32) × (look.hi < 2 ^ 32) × FitsArea look.area

abbrev pub IsLookReply : Reply → Type 0
IsLookReply (Saw look) = FitsLook look
IsLookReply _ = ⊥

-- the shape of the reply to each event
abbrev pub HasShape : Event → Reply → Type 0
HasShape (Memory access) reply = IsBusReply (is_write access.kind) (bytes_of access.width) reply
HasShape (Wide access) reply = IsWideReply (is_write access.kind) access.bytes (length (parts_of access)) reply
HasShape (Port access) reply = IsBusReply access.write (bytes_of access.width) reply
HasShape (LookAt kind addr smm) reply = IsLookReply reply
HasShape Ack reply = IsBusReply false 1 reply
HasShape event reply = reply ≡ outside_answer (answers_outside event)

-- what takes a level has a number of a byte
abbrev pub FitsLevel : (has_level : Bool) → ℕ → Type 0
FitsLevel true number = number < 0x100
FitsLevel false number = Unit {0}

-- a stimulus has such a number, and a moment is one of the calendar
abbrev pub IsNamed : Event → Type 0
IsNamed (Time moment) = IsMoment moment
IsNamed event = IfSome (applied_by event) (λ said. FitsLevel (stimulus_form said.stimulus).has_level said.number)

-- the event is one of a statement's forms, in its place, and the reply has its shape
pub record IsWellFormed (version : ℕ) (entry : Entry) : Type 0 where
  pub actor : entry.actor < 0x100
  pub seq : IsDecimal entry.seq
  pub form : IsEventForm version entry.event
  pub named : IsNamed entry.event
  pub placed : is_event_placed entry.event ≡ true
  pub shape : HasShape entry.event entry.reply
