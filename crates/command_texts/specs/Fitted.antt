-- Why the board that a script asks for was not opened.
use Rattle.std.specs.Prelude.{ℕ, List, Option}
use Rattle.board_spec.specs.Setup.{IsDisk}
use Rattle.board_chipset.specs.declared.setup.BoardOpen.{BoardOpen}
use Rattle.board_chipset.specs.declared.setup.BoardOpen.TheVariants.{BadRom, BadDisk, NoMemory}

-- why no board was opened with a good ROM and this disk
abbrev pub IsNotOpened : Option (List ℕ) → BoardOpen → Type 0
IsNotOpened disk BadRom = ⊥
IsNotOpened disk BadDisk = ¬ IsDisk disk
IsNotOpened disk NoMemory = Unit {0}
