-- Texts of logs, and texts that are none.
use Rattle.std.specs.Prelude.{ℕ, List, [], ◌∷◌, ◌++◌, take, codes}
use Rattle.board_examples.specs.Basics.{small_board}
use Rattle.board_examples.specs.Orders.{phases}
use Rattle.script_spec.specs.Lines.{text_of_lines}
use Rattle.script_spec.specs.Checks.{IsLogText, IsBadLog, DiffersAt}

unfoldable pub NoEntries : Type 0
NoEntries = IsLogText 2 [] (text_of_lines (codes "access log 2" ∷ []))

unfoldable pub NoSuchVersion : Type 0
NoSuchVersion = IsBadLog (text_of_lines (codes "access log 3" ∷ [])) 1

-- line 1 of the empty file has no line feed
unfoldable pub EmptyLog : Type 0
EmptyLog = IsBadLog [] 1

-- ---- held against the script of the worked orders

abbrev pub order_lines : List (List ℕ)
order_lines =
    codes "access log 1"
    ∷ codes "1 0.1 out d 0CF8 80000058 = - confadd -"
    ∷ codes "2 0.2 out b 0CFD 10 = - config:00.0.59 -"
    ∷ []

abbrev pub last_line : List ℕ
last_line = codes "3 1.1 look r 000F0000 = 1 000F0000 000FFFFF shadow:0"

abbrev pub DiffersFromOrders : List ℕ → (line : ℕ) → Type 0
DiffersFromOrders bytes line = DiffersAt small_board 1 phases bytes line

unfoldable pub EmptyLogDiffers : Type 0
EmptyLogDiffers = DiffersFromOrders [] 1

-- a missing line counts as different
unfoldable pub CutLogDiffers : Type 0
CutLogDiffers = DiffersFromOrders (text_of_lines (take 2 order_lines)) 3

-- so does a line without its line feed
unfoldable pub OpenLogDiffers : Type 0
OpenLogDiffers = DiffersFromOrders (text_of_lines order_lines ++ last_line) 4

-- and a line past the end
unfoldable pub LongLogDiffers : Type 0
LongLogDiffers = DiffersFromOrders (text_of_lines (order_lines ++ last_line ∷ codes "4 0.3 ack = 07 spur0 -" ∷ [])) 5
