-- What a step reads of memory where expansion ROMs were given bytes, whatever history left the board.
use Rattle.std.specs.Prelude.{ℕ, ◌≡◌, ◌+◌, ◌<◌, List, Some}
use Rattle.board_prelude.specs.{WideAccess, Entry, Event, IsSetup, byte, address_count}
use Rattle.uart_16550.specs.declared.com1.Happening.TheVariants.{Happens}
use Rattle.machine_records.specs.declared.event.EventRecord.{EventRecord}
use Rattle.machine_records.specs.declared.reply.ReplyRecord.{ReplyRecord}
use Rattle.machine.specs.Machines.{MachineState}
use Rattle.machine_records.specs.FittedReplies.{IsMachineStep}
use Rattle.machine_records.specs.Events.{asked_said}
use Rattle.machine_records.specs.Steps.{IsHistoryOf}
use Rattle.board_laws.specs.RomReads.{AreBytes, byte_read, read_by}

-- a record asks a machine for these bytes of memory
pub record AsksRead (machine : MachineState) (said : EventRecord) (event : Event) (read : WideAccess) : Type 0 where
  pub fits : IsSetup machine.saved.serial.board.setup
  pub bytes : AreBytes machine.saved.serial.board.setup machine.roms
  pub asked : asked_said said ≡ Some (Happens event)
  pub reads : read_by event ≡ Some read
  pub address : said.addr < address_count

-- each byte that a step tells is what a read of that byte alone gives at its address
abbrev pub StepReadsByteByByte : Type 0
StepReadsByteByByte =
    (old new : MachineState) (said : EventRecord) (reply : ReplyRecord) (event : Event) (read : WideAccess)
    (history : List Entry)
    (k : ℕ) →
    AsksRead old said event read → IsMachineStep old new said reply (Happens event) →
    IsHistoryOf old.saved.serial history → k < read.bytes →
    byte reply.value k
    ≡ byte_read old.roms old.saved.serial.board.setup history read.kind read.smm (read.addr + k)
