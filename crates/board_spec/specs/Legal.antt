-- Legal histories: each reply is the answer, and each processor's entries are numbered from 1.
use Rattle.std.specs.Prelude.{ℕ, ◌≡◌, ◌+◌, ◌==◌, List, [], ◌∷◌, length, filter}
use Rattle.board_spec.specs.declared.event.Entry.{Entry}
use Rattle.board_spec.specs.declared.event.Event.{Event}
use Rattle.board_spec.specs.declared.event.Reply.{Reply}
use Rattle.board_spec.specs.Setup.{Setup}
use Rattle.board_spec.specs.Answer.{IsAnswer}

-- the entries of a processor
abbrev pub entries_by : ℕ → List Entry → List Entry
entries_by actor history = filter (λ entry. entry.actor == actor) history

-- the entry that comes after a history, numbered as its processor's next
abbrev pub next_entry : List Entry → ℕ → Event → Reply → Entry
next_entry history actor event reply =
    record { actor = actor; seq = length (entries_by actor history) + 1; event = event; reply = reply }

-- an entry is the next of a history: its number is one more than its processor's entries, and its
-- reply is the answer
pub record IsNext (setup : Setup) (before : List Entry) (entry : Entry) : Type 0 where
  pub number : entry.seq ≡ length (entries_by entry.actor before) + 1
  pub answer : IsAnswer setup before entry.event entry.reply

-- each entry is the next of those before it. The newest entry stands first
abbrev pub IsLegal : Setup → List Entry → Type 0
IsLegal setup [] = Unit {0}
IsLegal setup (entry ∷ before) = IsNext setup before entry × IsLegal setup before
