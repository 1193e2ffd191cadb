-- The words of the command line, and the command that they are.
use Rattle.std.specs.Prelude.{ℕ, ◌≡◌, ◌≤◌, ◌%◌, ◌==◌, ◌↔◌, Bool, true, false, List, [], ◌∷◌, map, string_bytes, String}
use Rattle.std.specs.Prelude.{Option, Some, None, option_map, codes, decimal, bytes_eq, if◌then◌else◌, ◌&&◌, nat_le}
use Rattle.std.specs.Global.{Global}
use Rattle.board_spec.specs.Stimuli.{last_sector}
use Rattle.script_spec.specs.Numbers.{parse_decimal, parse_hex, ◌>>=◌}
use Rattle.make_script.specs.Laws.{most_rounds}
use Rattle.command_words.specs.declared.transfer.Transfer.{Transfer}

-- a command, with the names of the files that its words say, and its numbers
pub data Command : Type 0 where
  Replay : (script : List ℕ) → Command
  Run : (script : List ℕ) → Command
  Map : (script : List ℕ) → Command
  Check : (script log : List ℕ) → Command
  Make : (rounds : ℕ) → Command
  Dma : (script : List ℕ) → (transfer : Transfer) → Command
  Save : (script : List ℕ) → Command
  Resume : (image script : List ℕ) → Command
  Serial : (script input : List ℕ) → Command
  Blame : (script : List ℕ) → Command

-- the script that a command names
abbrev pub script_name : Command → Option (List ℕ)
script_name (Replay script) = Some script
script_name (Run script) = Some script
script_name (Map script) = Some script
script_name (Check script log) = Some script
script_name (Make rounds) = None
script_name (Dma script transfer) = Some script
script_name (Save script) = Some script
script_name (Resume image script) = Some script
script_name (Serial script input) = Some script
script_name (Blame script) = Some script

-- ---- the numbers that words can say

-- `make` makes 1 to 20,000 rounds
abbrev pub IsRoundCount : ℕ → Type 0
IsRoundCount rounds = (1 ≤ rounds) × (rounds ≤ most_rounds)

-- a descriptor table is at an address that is a multiple of 4, a disk has the sectors 0 to 65,535, and a transfer moves
-- 1 to
-- 256 of them
pub record IsTransfer (transfer : Transfer) : Type 0 where
  pub aligned : transfer.table % 4 ≡ 0
  pub sector : transfer.lba ≤ 65_535
  pub some : 1 ≤ transfer.count
  pub most : transfer.count ≤ 256

-- such a command there is
abbrev pub IsCommand : Command → Type 0
IsCommand (Make rounds) = IsRoundCount rounds
IsCommand (Dma script transfer) = IsTransfer transfer
IsCommand _ = Unit {0}

-- ---- what a user writes

abbrev pub direction_word : (to_memory : Bool) → List ℕ
direction_word true = codes "in"
direction_word false = codes "out"

-- these words are those of a command. The address of a table has eight hexadecimal digits, with letters in either case
abbrev pub AreWordsOf : List (List ℕ) → Command → Type 0
AreWordsOf words (Replay script) = words ≡ codes "replay" ∷ script ∷ []
AreWordsOf words (Run script) = words ≡ codes "run" ∷ script ∷ []
AreWordsOf words (Map script) = words ≡ codes "map" ∷ script ∷ []
AreWordsOf words (Check script log) = words ≡ codes "check" ∷ script ∷ log ∷ []
AreWordsOf words (Make rounds) = words ≡ codes "make" ∷ decimal rounds ∷ []
AreWordsOf words (Dma script transfer) =
    (digits : List ℕ) × (parse_hex 8 digits ≡ Some transfer.table)
    × (words
    ≡ codes "dma" ∷ script ∷ direction_word transfer.to_memory ∷ digits ∷ decimal transfer.lba ∷ decimal transfer.count
    ∷ [])
AreWordsOf words (Save script) = words ≡ codes "save" ∷ script ∷ []
AreWordsOf words (Resume image script) = words ≡ codes "resume" ∷ image ∷ script ∷ []
AreWordsOf words (Serial script input) = words ≡ codes "serial" ∷ script ∷ input ∷ []
AreWordsOf words (Blame script) = words ≡ codes "blame" ∷ script ∷ []

-- the commands, as a user is told of them where the words are none
abbrev pub usage_text : List ℕ
usage_text =
    codes "usage: board replay FILE, run FILE, map FILE, check FILE LOG, make N, dma FILE in|out TABLE LBA COUNT, save FILE, resume IMAGE FILE, serial FILE INPUT, blame FILE"

-- ---- the command that words are

-- the only word, and the two where there are two
abbrev pub name_of : List (List ℕ) → Option (List ℕ)
name_of (name ∷ []) = Some name
name_of _ = None

abbrev pub names_of : List (List ℕ) → Option (List ℕ × List ℕ)
names_of (name ∷ other ∷ []) = Some (name, other)
names_of _ = None

-- a verb with the name of one file, and with those of two
abbrev pub with_name : (List ℕ → Command) → List (List ℕ) → Option Command
with_name command words = option_map command (name_of words)

abbrev pub with_names : (List ℕ → List ℕ → Command) → List (List ℕ) → Option Command
with_names command words = option_map (λ names. command names.0 names.1) (names_of words)

abbrev pub is_round_count : ℕ → Bool
is_round_count count = nat_le 1 count && nat_le count most_rounds

unfoldable pub make_of : List (List ℕ) → Option Command
make_of (word ∷ []) = do
  count ← parse_decimal word
  if is_round_count count then Some (Make count) else None
make_of _ = None

abbrev pub is_transfer : Transfer → Bool
is_transfer transfer =
    transfer.table % 4 == 0 && nat_le transfer.lba last_sector && nat_le 1 transfer.count && nat_le transfer.count 256

-- a command of this transfer, where there is one
abbrev pub dma_with : (script : List ℕ) → Transfer → Option Command
dma_with script transfer = if is_transfer transfer then Some (Dma script transfer) else None

unfoldable pub direction_of : List ℕ → Option Bool
direction_of word =
    if bytes_eq word (codes "in") then Some true else if bytes_eq word (codes "out") then Some false else None

unfoldable pub dma_of : List (List ℕ) → Option Command
dma_of (script ∷ direction ∷ table ∷ lba ∷ count ∷ []) = do
  to_memory ← direction_of direction
  address ← parse_hex 8 table
  sector ← parse_decimal lba
  sectors ← parse_decimal count
  dma_with script (record { to_memory = to_memory; table = address; lba = sector; count = sectors })
dma_of _ = None

unfoldable pub command_of : List (List ℕ) → Option Command
command_of [] = None
command_of (verb ∷ words) =
    if bytes_eq verb (codes "replay") then with_name Replay words else
    if bytes_eq verb (codes "run") then with_name Run words else
    if bytes_eq verb (codes "map") then with_name Map words else
    if bytes_eq verb (codes "check") then with_names Check words else
    if bytes_eq verb (codes "make") then make_of words else
    if bytes_eq verb (codes "dma") then dma_of words else
    if bytes_eq verb (codes "save") then with_name Save words else
    if bytes_eq verb (codes "resume") then with_names Resume words else
    if bytes_eq verb (codes "serial") then with_names Serial words else
    if bytes_eq verb (codes "blame") then with_name Blame words else None

-- the command that the words ask for
abbrev pub command_said : List (String Global) → Option Command
command_said words = command_of (map string_bytes words)

-- ---- the laws of words

-- words ask for a command exactly where they are its words
abbrev pub WordsDecide : Type 0
WordsDecide =
    (words : List (List ℕ)) (command : Command) →
    (command_of words ≡ Some command) ↔ (IsCommand command × AreWordsOf words command)

-- words are those of at most one command
abbrev pub OneCommand : Type 0
OneCommand =
    (words : List (List ℕ)) (command other : Command) → IsCommand command → IsCommand other →
    AreWordsOf words command → AreWordsOf words other → command ≡ other
