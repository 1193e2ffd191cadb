-- The files that each command reads, in their order: one line a command.
use Rattle.std.specs.Prelude.{ℕ, ◌++◌, List, [], ◌∷◌, Option, Some, None}
use Rattle.command_words.specs.Words.{Command, Check, Make, Resume, Serial, script_name}
use Rattle.command_files.specs.declared.status.Which.{Which}
use Rattle.command_files.specs.declared.status.Which.TheVariants.{Script, Rom, Disk, Log, Image, Input}

-- the board that a script asks for: the script, then the ROM and the disk that it names
abbrev pub with_board : List Which
with_board = Script ∷ Rom ∷ Disk ∷ []

-- the files that a command reads, in their order. An image has a ROM and a disk of its own
abbrev pub files_of : Command → List Which
files_of (Check script log) = with_board ++ Log ∷ []
files_of (Make rounds) = []
files_of (Resume image script) = Image ∷ Script ∷ []
files_of (Serial script input) = with_board ++ Input ∷ []
files_of _ = with_board

abbrev pub log_name : Command → Option (List ℕ)
log_name (Check script log) = Some log
log_name _ = None

abbrev pub image_name : Command → Option (List ℕ)
image_name (Resume image script) = Some image
image_name _ = None

abbrev pub input_name : Command → Option (List ℕ)
input_name (Serial script input) = Some input
input_name _ = None

-- the name of a file that stands in the words themselves: those of ROM and disk stand in the script
abbrev pub name_in_words : Command → Which → Option (List ℕ)
name_in_words command Script = script_name command
name_in_words command Log = log_name command
name_in_words command Image = image_name command
name_in_words command Input = input_name command
name_in_words command _ = None

-- the most bytes of a file: 16 MiB of a script, 512 KiB of a ROM, 32 MiB of a disk, 64 MiB of a log, 40 MiB of an
-- image,
-- 1 MiB of input
abbrev pub limit_of : Which → ℕ
limit_of Script = 0x100_0000
limit_of Rom = 0x8_0000
limit_of Disk = 0x200_0000
limit_of Log = 0x400_0000
limit_of Image = 0x280_0000
limit_of Input = 0x10_0000
