-- The state of the machine that the values of this crate stand for.
use Rattle.std.specs.Prelude.{ℕ, ◌*◌, ◌<◌, List, take, Result, Ok, Err}
use Rattle.device_spec.specs.Ata.State.{Medium, Registers, Activity, Ready, Failed, Reading, Writing, Identifying}
use Rattle.device_spec.specs.Ata.State.{Drive}
use Rattle.device_spec.specs.Ata.Commands.{aborted, not_found, uncorrectable}
use Rattle.ata_pio.specs.declared.fault.Fault.{Fault}
use Rattle.ata_pio.specs.declared.fault.Fault.TheVariants.{Aborted, NotFound, Uncorrectable}
use Rattle.ata_pio.specs.declared.task_file.TaskFile.{TaskFile}
use Rattle.ata_pio.specs.declared.controller.Progress.{Progress}
use Rattle.ata_pio.specs.declared.controller.Progress.TheVariants.{Idle, Error, Read, Write, Identify}
use Rattle.ata_pio.specs.declared.controller.Controller.{Controller}
use Rattle.ata_pio.specs.declared.sectors.Sectors.{Sectors}

-- the byte of the error register
abbrev pub error_of : Fault → ℕ
error_of Aborted = aborted
error_of NotFound = not_found
error_of Uncorrectable = uncorrectable

-- a sector that was looked for, or the byte of the error register
abbrev pub looked : Result ℕ Fault → Result ℕ ℕ
looked (Ok sector) = Ok sector
looked (Err fault) = Err (error_of fault)

abbrev pub medium_of : Sectors → Medium
medium_of sectors = record { bytes = sectors.bytes.items; bad = sectors.bad.items }

abbrev pub registers_of : TaskFile → Registers
registers_of task = record {
  features = task.features;
  error = task.error;
  count = task.count;
  low = task.low;
  mid = task.mid;
  high = task.high;
  device = task.device;
  srst = task.srst;
  nien = task.nien;
}

-- what is under way, where the buffer holds the words that came of a sector
abbrev pub activity_of : List ℕ → Progress → Activity
activity_of buffer Idle = Ready
activity_of buffer Error = Failed
activity_of buffer (Read sector word) = Reading sector word
activity_of buffer (Write sector word) = Writing sector (take (2 * word) buffer)
activity_of buffer (Identify word) = Identifying word

abbrev pub drive_of : Controller → Drive
drive_of controller = record {
  registers = registers_of controller.task;
  activity = activity_of controller.buffer controller.progress;
  request = controller.request;
}

-- the sector under way is one of the disk's
abbrev pub IsOnDisk : ℕ → Progress → Type 0
IsOnDisk count Idle = Unit {0}
IsOnDisk count Error = Unit {0}
IsOnDisk count (Read sector word) = sector < count
IsOnDisk count (Write sector word) = sector < count
IsOnDisk count (Identify word) = Unit {0}
