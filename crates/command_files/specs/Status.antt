-- The exit code of each status.
use Rattle.std.specs.Prelude.{ℕ}
use Rattle.command_files.specs.declared.status.Status.{Status}
use Rattle.command_files.specs.declared.status.Status.TheVariants.{Done, Usage, ReadFault, WriteFault, TooLong}
use Rattle.command_files.specs.declared.status.Status.TheVariants.{BadScript, BadImage, Differs, NoMemory, OtherBoard}

abbrev pub code_of : Status → ℕ
code_of Done = 0
code_of Usage = 1
code_of (ReadFault which) = 2
code_of WriteFault = 3
code_of (TooLong which) = 4
code_of (BadScript line why) = 5
code_of (BadImage which) = 6
code_of (Differs line) = 7
code_of NoMemory = 8
code_of OtherBoard = 9
