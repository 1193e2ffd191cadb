-- An access of 1, 2 or 4 bytes at ports, aligned or not: its bus cycles one after another, and the one reply that they
-- make.
use Rattle.std.specs.Prelude.{ℕ, ◌≡◌, ◌+◌, ◌*◌, ◌%◌, ◌^◌, ◌==◌, max, nat_lt, if◌then◌else◌, List, [], ◌∷◌, Option}
use Rattle.std.specs.Prelude.{Some, None, false, bit_or}
use Rattle.board_prelude.specs.{Kind, Width, WideAccess, bytes_of, largest_of, is_write, parts_of}
use Rattle.board_base.specs.declared.access.Access.{Access}
use Rattle.board_chipset.specs.declared.in_range.OutOfRange.TheVariants.{Value}
use Rattle.machine.specs.Machines.{MachineState}
use Rattle.machine_records.specs.declared.event.EventRecord.{EventRecord}
use Rattle.machine_records.specs.declared.reply.ReplyRecord.{ReplyRecord}
use Rattle.machine_records.specs.Events.{width_said}
use Rattle.machine_records.specs.Numbers.{parts_reply, read_kind, write_kind}
use Rattle.machine_records.specs.Statuses.{fault_status, no_event, ok}
use Rattle.machine_records.specs.Strings.{IsStep, port_record}

-- ---- what is refused

-- by how many bytes: the last one lies past port FFFFh, and then the value does not fit
abbrev pub width_status : (port value : ℕ) → Width → ℕ
width_status port value width =
    if nat_lt (2 ^ 16) (port + bytes_of width) then no_event else
    if nat_lt (largest_of width) value then fault_status Value else ok

abbrev pub status_by : (port value : ℕ) → Option Width → ℕ
status_by port value None = no_event
status_by port value (Some width) = width_status port value width

-- how such an access ends, whatever the board holds: no cycle of one that is in range is refused
unfoldable pub port_status : (port bytes value : ℕ) → ℕ
port_status port bytes value = status_by port value (width_said bytes)

-- ---- the cycles

-- the access to memory of as many bytes at the same address, whose parts are the cycles at the ports
abbrev pub at_ports : Kind → (port bytes value : ℕ) → WideAccess
at_ports kind port bytes value =
    record { kind = kind; bytes = bytes; smm = false; addr = port; value = value }

abbrev pub cycle_record : Access → EventRecord
cycle_record cycle =
    port_record (if is_write cycle.kind then write_kind else read_kind) cycle.addr (bytes_of cycle.width) cycle.value

-- ---- the reply

-- what answered a cycle, number `index` from 0 on, is the next part after those of the cycles before it
abbrev pub joined_parts : (index : ℕ) (before last : ReplyRecord) → ReplyRecord
joined_parts index before last = record last {
  form = parts_reply;
  parts = index + 1;
  part0 = before.part0;
  part1 = if index == 1 then last.part0 else before.part1;
  part2 = if index == 2 then last.part0 else before.part2;
  part3 = if index == 3 then last.part0 else before.part3;
}

-- The reply to a cycle, number `index` from 0 on, joined to what was told of those before it, which moved so many bytes:
-- each cycle is a part, as of an access to memory; the value has the bytes of all; the reset is the strongest that one of
-- them made; the byte that one of them sent is told; and the lines that rose are those of all. What stands after the step
-- is as after the last cycle, and the version of the map counts the changes by all. The reply to the first cycle stays as
-- it is.
abbrev pub joined_reply : (index done : ℕ) (before : ReplyRecord) (bytes : ℕ) → ReplyRecord → ReplyRecord
joined_reply index done before bytes last =
    if index == 0 then last
    else record (joined_parts index before last) {
      value = before.value % 256 ^ done + 256 ^ done * (last.value % 256 ^ bytes);
      reset = max before.reset last.reset;
      sent = if before.has_sent == 1 then before.sent else last.sent;
      has_sent = if before.has_sent == 1 then 1 else last.has_sent;
      rose = bit_or before.rose last.rose;
    }

-- cycles in turn, of which the first has this number, and begins so many bytes after the access: each is a step of the
-- board, and its reply is joined to what was told before
abbrev pub AreCycles : List Access → (index done : ℕ) → MachineState → ReplyRecord → MachineState → ReplyRecord → Type 0
AreCycles [] index done old before new told = (new ≡ old) × (told ≡ before)
AreCycles (cycle ∷ later) index done old before new told =
    (middle : MachineState) × (reply : ReplyRecord) × IsStep (cycle_record cycle) old middle reply ×
    AreCycles later (index + 1) (done + bytes_of cycle.width) middle
    (joined_reply index done before (bytes_of cycle.width) reply) new told

-- the board after all cycles of an access, which is in range, and the reply that they make
pub record IsPortAccess (kind : Kind) (port bytes value : ℕ) (old : MachineState) (before : ReplyRecord)
    (new : MachineState) (told : ReplyRecord) : Type 0 where
  pub in_range : port_status port bytes value ≡ ok
  pub cycles : AreCycles (parts_of (at_ports kind port bytes value)) 0 0 old before new told
