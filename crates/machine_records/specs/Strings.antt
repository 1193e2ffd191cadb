-- Accesses to one port, one after another, as a string instruction makes them.
use Rattle.std.specs.Prelude.{ℕ, zero, suc, ◌≡◌, ◌≢◌, ◌<◌, ◌%◌, ◌^◌, ◌==◌, ◌⊎◌, Bool, true, false, not, ◌||◌, List}
use Rattle.std.specs.Prelude.{length, drop, slice_index, IsSomeAnd}
use Rattle.machine_records.specs.declared.event.EventRecord.{EventRecord}
use Rattle.machine_records.specs.declared.reply.ReplyRecord.{ReplyRecord}
use Rattle.machine.specs.Machines.{MachineState}
use Rattle.machine_records.specs.Events.{asked_said}
use Rattle.machine_records.specs.FittedReplies.{IsMachineStep}
use Rattle.machine_records.specs.Statuses.{IsEventRefusal, ok}
use Rattle.machine_records.specs.Numbers.{port_event, read_kind, write_kind}

-- the record of one access
abbrev pub port_record : (kind port bytes value : ℕ) → EventRecord
port_record kind port bytes value =
    record { value = value; addr = port; what = port_event; kind = kind; bytes = bytes; smm = 0; reserved = 0 }

-- after this reply the processor is asked for: INT is asserted, an interrupt line rose, there was a reset, or COM1 sent
-- a byte
abbrev pub asks_back : ReplyRecord → Bool
asks_back reply =
    (reply.interrupt == 1) || not (reply.rose == 0) || not (reply.reset == 0) || (reply.has_sent == 1)

-- a board does what a record asks, and this is its reply
abbrev pub IsStep : EventRecord → (old new : MachineState) → ReplyRecord → Type 0
IsStep event old new reply = IsSomeAnd (asked_said event) (IsMachineStep old new event reply)

-- a board refuses what a record asks, with this status
abbrev pub IsRefused : EventRecord → MachineState → (status : ℕ) → Type 0
IsRefused event machine status = IsEventRefusal machine.saved.serial (asked_said event) status

-- it refuses the first of so many: with none there is nothing to refuse
pub record IsFirstRefused (asked : ℕ → EventRecord) (count : ℕ) (machine : MachineState) (status : ℕ) : Type 0 where
  pub some : 0 < count
  pub first : IsRefused (asked 0) machine status

-- so many steps in turn, of which step k, from 0 on, is asked by record k, and reply k holds what is said of it; after
-- none but the last is the processor asked for; and the last one's reply is this
module _ (asked : ℕ → EventRecord) (Holds : ℕ → ReplyRecord → Type 0) where
  abbrev pub GoesOn : ℕ → ReplyRecord → Type 0
  GoesOn zero reply = Unit {0}
  GoesOn (suc k) reply = asks_back reply ≡ false

  pub record IsNextStep (k : ℕ) (old new : MachineState) (reply : ReplyRecord) : Type 0 where
    pub step : IsStep (asked k) old new reply
    pub told : Holds k reply

  abbrev pub AreInTurn : MachineState → ReplyRecord → ℕ → MachineState → ReplyRecord → Type 0
  AreInTurn old first zero new last = (new ≡ old) × (last ≡ first)
  AreInTurn old first (suc k) new last =
      (middle : MachineState) × (reply : ReplyRecord) × AreInTurn old first k middle reply ×
      GoesOn k reply × IsNextStep k middle new last

  -- all are done; or the last one asks for the processor; or the next one would be refused
  abbrev pub EndsAt : (count : ℕ) → MachineState → (done : ℕ) → ReplyRecord → Type 0
  EndsAt count new done last =
      (done ≡ count) ⊎ (0 < done) × (asks_back last ≡ true) ⊎
      (0 < done) × ((status : ℕ) × (status ≢ ok) × IsRefused (asked done) new status)

  pub record AreDone (count : ℕ) (old : MachineState) (first : ReplyRecord) (new : MachineState)
      (done : ℕ) (last : ReplyRecord) : Type 0 where
    pub steps : AreInTurn old first done new last
    pub ends : EndsAt count new done last

-- reads: value k is that of reply k, of 32 bits
abbrev pub reads : (port bytes : ℕ) → ℕ → EventRecord
reads port bytes k = port_record read_kind port bytes 0

abbrev pub IsValue : List ℕ → ℕ → ReplyRecord → Type 0
IsValue values k reply = slice_index values k ≡ reply.value % 2 ^ 32

-- and values that were not read are as before
pub record AreRead (port bytes : ℕ) (old : MachineState) (first : ReplyRecord) (values : List ℕ)
    (new : MachineState) (last : ReplyRecord) (told : List ℕ) (done : ℕ) : Type 0 where
  pub in_turn : AreDone (reads port bytes) (IsValue told) (length values) old first new done last
  pub size : length told ≡ length values
  pub rest : drop done told ≡ drop done values

-- writes: access k writes value k
abbrev pub writes : (port bytes : ℕ) → List ℕ → ℕ → EventRecord
writes port bytes values k = port_record write_kind port bytes (slice_index values k)

abbrev pub IsAny : ℕ → ReplyRecord → Type 0
IsAny k reply = Unit {0}

abbrev pub AreWritten : (port bytes : ℕ) → List ℕ → MachineState → ReplyRecord → MachineState →
    ReplyRecord → ℕ → Type 0
AreWritten port bytes values old first new last done =
    AreDone (writes port bytes values) IsAny (length values) old first new done last
