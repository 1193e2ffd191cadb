-- The line of a log that an event and its reply have, both as records.
use Rattle.std.specs.Prelude.{ℕ, ◌≡◌, ◌≢◌, ◌<◌, ◌⊎◌, List, [], ◌∷◌, ◌++◌, length, Option, Some, None}
use Rattle.board_prelude.specs.{Entry, line_feed, line_text}
use Rattle.script_spec.specs.Numbers.{◌>>=◌}
use Rattle.machine_records.specs.declared.event.EventRecord.{EventRecord}
use Rattle.machine_records.specs.declared.reply.ReplyRecord.{ReplyRecord}
use Rattle.machine_records.specs.Events.{event_said}
use Rattle.machine_records.specs.Statuses.{no_memory, no_event, no_reply, no_room}
use Rattle.machine_records.specs.RepliesBack.{reply_recorded}

-- the entry of a processor, the number of this entry among its processor's, an event and its reply
unfoldable pub entry_recorded : (processor statement : ℕ) → EventRecord → ReplyRecord → Option Entry
entry_recorded processor statement event reply = do
  asked ← event_said event
  answered ← reply_recorded reply
  Some (record { actor = processor; seq = statement; event = asked; reply = answered })

-- line `number` of the log, with its line feed
abbrev pub whole_line : (number : ℕ) → Entry → List ℕ
whole_line number entry = line_text number entry ++ line_feed ∷ []

-- why no line is written: one of the records says nothing, the event's first; or there is no room; or no memory
abbrev pub IsLineRefusal : Option Entry → EventRecord → (number room status : ℕ) → Type 0
IsLineRefusal None event number room status =
    ((status ≡ no_event) × (event_said event ≡ None)) ⊎ ((status ≡ no_reply) × (event_said event ≢ None))
IsLineRefusal (Some entry) event number room status =
    (status ≡ no_memory) ⊎ ((status ≡ no_room) × (room < length (whole_line number entry)))
