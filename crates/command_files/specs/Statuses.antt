-- The status that a fault of a part becomes.
use Rattle.std.specs.Prelude.{Result, Ok, Err}
use Rattle.board_outside.specs.declared.fault.PutFault.{PutFault}
use Rattle.board_outside.specs.declared.fault.PutFault.TheVariants.{Failed as SinkFailed, NoMemory as NoMemoryForPut}
use Rattle.scripts.specs.declared.fault.ScriptFault.{ScriptFault}
use Rattle.scripts.specs.declared.fault.ScriptFault.TheVariants.{Bad as BadLine, NoMemory as NoMemoryForScript}
use Rattle.log_check.specs.declared.fault.CheckFault.{CheckFault}
use Rattle.log_check.specs.declared.fault.CheckFault.TheVariants.{Differs as DiffersAtLine}
use Rattle.log_check.specs.declared.fault.CheckFault.TheVariants.{NoMemory as NoMemoryForCheck}
use Rattle.board_image.specs.declared.fault.ImageFault.{ImageFault}
use Rattle.board_image.specs.declared.fault.ImageFault.TheVariants.{Bad as BadAt, NoMemory as NoMemoryForImage}
use Rattle.board_chipset.specs.declared.setup.BoardOpen.{BoardOpen}
use Rattle.board_chipset.specs.declared.setup.BoardOpen.TheVariants.{BadRom, BadDisk, NoMemory as NoMemoryForBoard}
use Rattle.command_files.specs.declared.status.Which.TheVariants.{Rom, Disk, Image}
use Rattle.command_files.specs.declared.status.Status.{Status}
use Rattle.command_files.specs.declared.status.Status.TheVariants.{Done, Usage, WriteFault, BadScript, BadImage}
use Rattle.command_files.specs.declared.status.Status.TheVariants.{Differs, NoMemory}

abbrev pub status_of_script_fault : ScriptFault → Status
status_of_script_fault (BadLine line why) = BadScript line why
status_of_script_fault NoMemoryForScript = NoMemory

abbrev pub status_of_board_fault : BoardOpen → Status
status_of_board_fault BadRom = BadImage Rom
status_of_board_fault BadDisk = BadImage Disk
status_of_board_fault NoMemoryForBoard = NoMemory

abbrev pub status_of_image_fault : ImageFault → Status
status_of_image_fault (BadAt at) = BadImage Image
status_of_image_fault NoMemoryForImage = NoMemory

abbrev pub status_of_check_fault : CheckFault → Status
status_of_check_fault (DiffersAtLine line) = Differs line
status_of_check_fault NoMemoryForCheck = NoMemory

abbrev pub status_of_put_fault : PutFault → Status
status_of_put_fault SinkFailed = WriteFault
status_of_put_fault NoMemoryForPut = NoMemory

-- how a command whose words are good ended
abbrev pub status_of : {T : Type 0} → Result T Status → Status
status_of (Ok value) = Done
status_of (Err status) = status

-- such a command ended early
abbrev pub IsRefusal : Status → Type 0
IsRefusal Done = ⊥
IsRefusal Usage = ⊥
IsRefusal _ = Unit {0}
