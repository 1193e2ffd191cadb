-- The board that a script asks for, with its images, and boards that a script is for.
use Rattle.std.specs.Prelude.{ℕ, ◌≡◌, List, Option, is_some}
use Rattle.board_prelude.specs.{Setup}
use Rattle.script_spec.specs.ScriptText.{Script as Said}

-- the memory and the cards that a script says, with these images
abbrev pub fitted : Said → (rom : List ℕ) → (disk : Option (List ℕ)) → Setup
fitted script rom disk = record { mib = script.mib; cards = script.cards; rom = rom; disk = disk }

-- a script is for a board like this one: it has as much memory, the same cards, and a disk where this one has one.
-- What the ROM and the disk hold may differ
pub record IsForBoard (setup : Setup) (script : Said) : Type 0 where
  pub memory : setup.mib ≡ script.mib
  pub cards : setup.cards ≡ script.cards
  pub disk : is_some setup.disk ≡ is_some script.disk
