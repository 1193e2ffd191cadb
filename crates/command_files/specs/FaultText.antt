-- The text of each status, as it is told on standard error.
use Rattle.std.specs.Prelude.{ℕ, List, [], ◌++◌, codes, decimal}
use Rattle.command_words.specs.Words.{usage_text}
use Rattle.command_files.specs.declared.status.Which.{Which}
use Rattle.command_files.specs.declared.status.Which.TheVariants.{Script, Rom, Disk, Log, Image, Input}
use Rattle.command_files.specs.declared.status.Status.{Status}
use Rattle.command_files.specs.declared.status.Status.TheVariants.{Done, Usage, ReadFault, WriteFault, TooLong}
use Rattle.command_files.specs.declared.status.Status.TheVariants.{BadScript, BadImage, Differs, NoMemory, OtherBoard}

abbrev pub kind_text : Which → List ℕ
kind_text Script = codes "script"
kind_text Rom = codes "rom"
kind_text Disk = codes "disk"
kind_text Log = codes "log"
kind_text Image = codes "image"
kind_text Input = codes "input"

abbrev pub text_of : Status → List ℕ
text_of Done = []
text_of Usage = usage_text
text_of (ReadFault which) = codes "read fault: " ++ kind_text which
text_of WriteFault = codes "write fault"
text_of (TooLong which) = codes "too long: " ++ kind_text which
text_of (BadScript line why) = codes "bad script: line " ++ (decimal line ++ (codes ": reason " ++ decimal why))
text_of (BadImage which) = codes "bad image: " ++ kind_text which
text_of (Differs line) = codes "differs: line " ++ decimal line
text_of NoMemory = codes "no memory"
text_of OtherBoard = codes "other board"
