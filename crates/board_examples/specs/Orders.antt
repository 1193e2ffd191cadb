-- A script for two processors, with two phases: one opens a shadow window while the other looks at it.
-- Either order is legal and complete, and each look answers for its place.
use Rattle.std.specs.Prelude.{◌≡◌, List, [], ◌∷◌, codes}
use Rattle.board_prelude.specs.{One, Read, Entry, Statement, IsLegal, statement_of, IsReplayOf, IsCompleteFor}
use Rattle.board_prelude.specs.{IsBegunFor, log_text}
use Rattle.board_base.specs.declared.target.Area.TheVariants.{Rom as RomArea, Shadow as ShadowArea}
use Rattle.board_examples.specs.Words.{selects, outputs, looks, sees, goes_to, host}
use Rattle.board_examples.specs.Basics.{small_board}
use Rattle.board_examples.specs.Logs.{entry_of, text_of}

abbrev pub addressed : Entry
addressed = entry_of 0 1 (selects 0x8000_0058)

abbrev pub opened : Entry
opened = entry_of 0 2 (outputs One 0xCFD 0x10 (goes_to (host 0x59)))

abbrev pub sees_rom : Entry
sees_rom = entry_of 1 1 (looks Read 0xF_0000 (sees 0 0xF_0000 0xF_FFFF RomArea))

abbrev pub sees_shadow : Entry
sees_shadow = entry_of 1 1 (looks Read 0xF_0000 (sees 1 0xF_0000 0xF_FFFF (ShadowArea 0)))

abbrev pub phases : List (List Statement)
phases =
    (statement_of addressed ∷ [])
    ∷ (statement_of opened ∷ statement_of sees_rom ∷ [])
    ∷ []

abbrev pub file_order : List Statement
file_order = statement_of addressed ∷ statement_of opened ∷ statement_of sees_rom ∷ []

-- the histories, the newest entry first
abbrev pub look_last : List Entry
look_last = sees_shadow ∷ opened ∷ addressed ∷ []

abbrev pub look_first : List Entry
look_first = opened ∷ sees_rom ∷ addressed ∷ []

unfoldable pub LookLast : Type 0
LookLast = IsReplayOf small_board file_order look_last × IsCompleteFor phases look_last

unfoldable pub LookFirst : Type 0
LookFirst = IsLegal small_board look_first × IsCompleteFor phases look_first

-- after the first phase the history is begun
unfoldable pub LookAlone : Type 0
LookAlone = IsLegal small_board (sees_rom ∷ addressed ∷ []) × IsBegunFor phases (sees_rom ∷ addressed ∷ [])

-- a look cannot see a write that comes after it
unfoldable pub LookTooEarly : Type 0
LookTooEarly = ¬ IsLegal small_board (opened ∷ sees_shadow ∷ addressed ∷ [])

unfoldable pub LookLastLogged : Type 0
LookLastLogged = log_text 1 look_last ≡ text_of
    (codes "access log 1"
    ∷ codes "1 0.1 out d 0CF8 80000058 = - confadd -"
    ∷ codes "2 0.2 out b 0CFD 10 = - config:00.0.59 -"
    ∷ codes "3 1.1 look r 000F0000 = 1 000F0000 000FFFFF shadow:0"
    ∷ [])

unfoldable pub LookFirstLogged : Type 0
LookFirstLogged = log_text 1 look_first ≡ text_of
    (codes "access log 1"
    ∷ codes "1 0.1 out d 0CF8 80000058 = - confadd -"
    ∷ codes "2 1.1 look r 000F0000 = 0 000F0000 000FFFFF rom"
    ∷ codes "3 0.2 out b 0CFD 10 = - config:00.0.59 -"
    ∷ [])
