-- What the laws say: each is proved on a function of `laws`.
use Rattle.std.specs.Prelude.{ℕ, ◌≡◌, Some}
use Rattle.board_spec.specs.declared.event.Entry.{Entry}
use Rattle.script_spec.specs.WellFormed.{IsWellFormed}
use Rattle.machine_records.specs.Replies.{AfterStep}
use Rattle.machine_records.specs.Replies.{record_said}
use Rattle.machine_records.specs.RepliesBack.{reply_recorded}

-- the record of a reply that a log can have says this reply, whatever stands after its step
abbrev pub RecordSaysReply : Type 0
RecordSaysReply =
    (version : ℕ) (entry : Entry) (after : AfterStep) → IsWellFormed version entry →
    reply_recorded (record_said entry.reply after) ≡ Some entry.reply
