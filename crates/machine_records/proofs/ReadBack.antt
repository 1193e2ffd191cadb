-- What the record of a reply says is this reply.
use Rattle.std.proofs.Common.{◌≡◌, ℕ, ◌<◌, ◌≤◌, ◌^◌, Bool, false, Option, Some, None, All, refl, arith, IfSome}
use Rattle.board_prelude.proofs.{nat_tests, Target, Device, Denial, bytes_of, Event, Memory, Wide, Port, Ack, Parts}
use Rattle.board_prelude.proofs.{Two, Three, Four, Reply, Bus, Saw, is_write, answers_outside, parts_list, bytes_few}
use Rattle.board_spec.specs.declared.event.Event.TheVariants.{Look as LookAt}
use Rattle.board_spec.specs.declared.event.Reply.TheVariants.{Parts as InParts}
use Rattle.script_spec.specs.WellFormed.{FitsPart, IsBusReply, IsLookReply, HasShape}
use Rattle.machine_records.specs.Replies.{AfterStep}
use Rattle.machine_records.specs.Replies.{record_said, bus_said, wide_said, look_said, blank}
use Rattle.machine_records.specs.RepliesBack.{bus_recorded, two_parts_recorded, three_parts_recorded}
use Rattle.machine_records.specs.RepliesBack.{four_parts_recorded, parts_recorded, wide_recorded, look_recorded}
use Rattle.machine_records.specs.RepliesBack.{cycle_value_recorded, form_recorded, reply_recorded}
use Rattle.machine_records.specs.Laws.{RecordSaysReply}
use Rattle.machine_records.proofs.PartsBack.{part_back, area_back}
use Rattle.script_spec.proofs.ReplyBack.{narrow_value}

-- ---- by the form

cycle_back : (value : Option ℕ) (target : Target) (denial : Option Denial) (after : AfterStep) →
    IfSome value (λ v. v < 2 ^ 32) → FitsPart (record { target = target; denial = denial }) →
    reply_recorded (bus_said value target denial after) ≡ Some (Bus value target denial)
unfolding reply_recorded form_recorded bus_recorded cycle_value_recorded bus_said blank
cycle_back value target denial after small fits =
    grind (arith, nat_tests, part_back (record { target = target; denial = denial }) fits)

wide_back : (parts : Parts) (value : Option ℕ) (after : AfterStep) → All FitsPart (parts_list parts) →
    reply_recorded (wide_said parts value after) ≡ Some (InParts parts value)
unfolding reply_recorded form_recorded wide_recorded parts_recorded two_parts_recorded three_parts_recorded
    four_parts_recorded wide_said blank
wide_back (Two a b) value after fits = grind (arith, nat_tests, part_back, fits 0 a, fits 1 a)
wide_back (Three a b c) value after fits = grind (arith, nat_tests, part_back, fits 0 a, fits 1 a, fits 2 a)
wide_back (Four a b c d) value after fits =
    grind (arith, nat_tests, part_back, fits 0 a, fits 1 a, fits 2 a, fits 3 a)

-- ---- by the event

bus_back : (writes : Bool) (bytes : ℕ) (reply : Reply) (after : AfterStep) → bytes ≤ 4 → IsBusReply writes bytes reply →
    reply_recorded (record_said reply after) ≡ Some reply
unfolding record_said
bus_back writes bytes (Bus value target denial) after few fits =
    cycle_back value target denial after (narrow_value writes bytes value few fits.0) (fits.1, fits.2)
bus_back writes bytes _ after few fits = absurd fits

look_back : (reply : Reply) (after : AfterStep) → IsLookReply reply
    → reply_recorded (record_said reply after) ≡ Some reply
unfolding record_said reply_recorded form_recorded look_recorded look_said blank
look_back (Saw look) after fits = rw (area_back look.area) refl
look_back _ after fits = absurd fits

reply_back : (event : Event) (reply : Reply) (after : AfterStep) → HasShape event reply →
    reply_recorded (record_said reply after) ≡ Some reply
unfolding record_said
reply_back (Memory access) reply after shape =
    bus_back (is_write access.kind) (bytes_of access.width) reply after (bytes_few access.width) shape
reply_back (Wide access) (InParts parts value) after shape = wide_back parts value after shape.1
reply_back (Wide access) _ after shape = absurd shape
reply_back (Port access) reply after shape =
    bus_back access.write (bytes_of access.width) reply after (bytes_few access.width) shape
reply_back (LookAt kind addr smm) reply after shape = look_back reply after shape
reply_back Ack reply after shape = bus_back false 1 reply after (omega arith) shape
reply_back event reply after shape = rw shape (cycle_back None (Device (answers_outside event)) None after tt (tt, tt))

pub read_back : RecordSaysReply
read_back version entry after formed = reply_back entry.event entry.reply after formed.shape
