-- The words of the command line, as they are given and as they are read.
use Rattle.std.specs.Prelude.{ℕ, ◌≡◌, All, IsUtf8, List, map, string_bytes, String, Option, Some, None, Result, Ok, Err}
use Rattle.std.specs.Global.{Vec, Global}
use Rattle.command_files.specs.declared.status.Status.{Status}
use Rattle.command_files.specs.declared.status.Status.TheVariants.{Usage, NoMemory}
use Rattle.board_main.specs.declared.line.WordFault.{WordFault}
use Rattle.board_main.specs.declared.line.WordFault.TheVariants.{NoText, NoRoom}
use Rattle.std.specs.declared.io.ErrorKind.{ErrorKind}
use Rattle.std.specs.declared.io.ErrorKind.TheVariants.{InvalidData}

-- the bytes of the words that were read
abbrev pub bytes_read : Result (Vec (String Global)) WordFault → Result (List (List ℕ)) WordFault
bytes_read (Ok words) = Ok (map string_bytes words.items)
bytes_read (Err fault) = Err fault

-- where it is told which words are given, these were read; words are refused only where one is not UTF-8, or for want
-- of
-- memory
abbrev pub AreRead : (given : Option (List (List ℕ))) → Result (List (List ℕ)) WordFault → Type 0
AreRead None read = Unit {0}
AreRead (Some given) (Ok words) = words ≡ given
AreRead (Some given) (Err NoText) = ¬ All IsUtf8 given
AreRead (Some given) (Err NoRoom) = Unit {0}

-- the system's list of words refuses one that is not UTF-8 as invalid data, and else only for want of memory
abbrev pub fault_of : ErrorKind → WordFault
fault_of InvalidData = NoText
fault_of _ = NoRoom

-- the status of words that were not read
abbrev pub status_of_words : WordFault → Status
status_of_words NoText = Usage
status_of_words NoRoom = NoMemory
