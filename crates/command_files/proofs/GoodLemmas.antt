-- What can be relied on once all files of a command were read.
use Rattle.std.proofs.Common.{◌≡◌, ℕ, List, [], ◌∷◌, reverse, Option, Some, refl, arith}
use Rattle.board_prelude.proofs.{nat_tests}
use Rattle.command_words.specs.Words.{Command, Check, Make, Resume, Serial, script_name}
use Rattle.command_files.specs.declared.status.Which.TheVariants.{Script, Rom, Disk}
use Rattle.command_files.specs.Table.{files_of}
use Rattle.command_files.specs.Known.{Files, Known, HasBoard, HasRead}
use Rattle.command_files.proofs.Places.{AreTaken}
use Rattle.command_files.proofs.Places.{are_read, taken_next, fetches_next, stops, fetches_last, fetches_all}
use Rattle.command_files.proofs.CallLemmas.{none_made}
use Rattle.command_files.proofs.Refusals.{holds_of_error}
use Rattle.std.proofs.lemmas.List.{take_all}

module _ (told : Option Files) where
  board_read : (command : Command) (name : List ℕ) → script_name command ≡ Some name → (known : Known) →
      AreTaken command told (Disk ∷ Rom ∷ Script ∷ []) known → HasBoard known
  board_read command name named known is = grind (arith, nat_tests)

  pub has_read : (command : Command) (known : Known) → AreTaken command told (reverse (files_of command)) known
      → HasRead command known
  has_read (Check script log) known is = grind (arith, nat_tests, board_read)
  has_read (Make rounds) known is = tt
  has_read (Resume image script) known is = grind (arith, nat_tests)
  has_read (Serial script input) known is = grind (arith, nat_tests, board_read)
  has_read command known is = board_read command _ refl known is

-- `read_files` is proved by these
pub ruleset read_files_rules = (
  none_made,
  holds_of_error,
  are_read,
  taken_next,
  fetches_next,
  stops,
  fetches_last,
  fetches_all,
  has_read,
  take_all,
  nat_tests,
)
