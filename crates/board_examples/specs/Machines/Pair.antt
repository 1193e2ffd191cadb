-- Worked examples of the 8259A pair.
use Rattle.std.specs.Prelude.{◌≡◌, ℕ, ◌==◌, Bool, true, false, List, [], ◌∷◌, map}
use Rattle.board_prelude.specs.{list_any, Pair, pair_at_reset, levels_at_power_on, pair_after_lines, port_byte}
use Rattle.board_prelude.specs.{pair_after_read, pair_after_write, answer_of, pair_after_acknowledge}
use Rattle.board_examples.specs.Machines.Words.{digit, given, told, after_lines}

-- a write of a byte, a read and the byte that it gives, the lines that are 1 with the bits of ELCR, and an
-- acknowledge with the vector, the chip and whether it is spurious
pub data Line : Type 0 where
  Out : (port byte : ℕ) → Line
  In : (port byte : ℕ) → Line
  Lines : (high : List ℕ) → (elcr : ℕ) → Line
  Ack : (vector chip : ℕ) → (is_spurious : Bool) → Line

abbrev pub all_lines : List ℕ
all_lines = 0 ∷ 1 ∷ 2 ∷ 3 ∷ 4 ∷ 5 ∷ 6 ∷ 7 ∷ 8 ∷ 9 ∷ 10 ∷ 11 ∷ 12 ∷ 13 ∷ 14 ∷ 15 ∷ []

-- the sixteen lines, where these are 1
abbrev pub levels_at : List ℕ → List Bool
levels_at high = map (λ line. list_any (λ other. other == line) high) all_lines

abbrev pub after : Line → Pair → Pair
after (Out port byte) pair = pair_after_write pair port byte
after (In port byte) pair = pair_after_read pair port
after (Lines high elcr) pair = pair_after_lines pair (levels_at high) elcr
after (Ack vector chip is_spurious) pair = pair_after_acknowledge pair

abbrev pub gives : Line → Pair → List ℕ
gives (Out port byte) pair = []
gives (In port byte) pair = port_byte pair port ∷ []
gives (Lines high elcr) pair = []
gives (Ack vector chip is_spurious) pair =
    (answer_of pair).vector ∷ (answer_of pair).chip ∷ digit (answer_of pair).is_spurious ∷ []

abbrev pub tells : Line → List ℕ
tells (Out port byte) = []
tells (In port byte) = byte ∷ []
tells (Lines high elcr) = []
tells (Ack vector chip is_spurious) = vector ∷ chip ∷ digit is_spurious ∷ []

-- from a state on, the pair gives what the lines say
abbrev pub Gives : Pair → List Line → Type 0
Gives pair lines = given gives after lines pair ≡ told tells lines

abbrev pub power_on : Pair
power_on = pair_at_reset levels_at_power_on

-- the bases 20h and 28h, the slave on input 2, no automatic end of interrupt
abbrev pub initialise : List Line
initialise =
    Out 0x20 0x11 ∷ Out 0x21 0x20 ∷ Out 0x21 0x04 ∷ Out 0x21 0x01
    ∷ Out 0xA0 0x11 ∷ Out 0xA1 0x28 ∷ Out 0xA1 0x02 ∷ Out 0xA1 0x01 ∷ []

unfoldable pub initialised : Pair
initialised = after_lines after initialise power_on

-- from the initialisation on, the pair gives what the lines say
abbrev pub Answers : List Line → Type 0
Answers lines = Gives initialised lines

-- before any initialisation a chip is not ready, and its base is 0
abbrev pub nobody_is_ready : List Line
nobody_is_ready =
    Ack 0x07 0 true ∷ Lines (0 ∷ 3 ∷ []) 0 ∷ Ack 0x07 0 true
    ∷ Out 0x20 0x11 ∷ Out 0x21 0x20 ∷ Out 0x21 0x04 ∷ Lines (0 ∷ 4 ∷ []) 0 ∷ Ack 0x27 0 true
    ∷ Out 0x21 0x01 ∷ Ack 0x24 0 false ∷ []

unfoldable pub NobodyIsReady : Type 0
NobodyIsReady = Gives power_on nobody_is_ready

-- spurious answers of the slave, whose line fell again, and of the master, whose level 2 is still served
abbrev pub spurious_answers : List Line
spurious_answers =
    Lines (0 ∷ 10 ∷ []) 0 ∷ Lines (0 ∷ []) 0 ∷ Ack 0x2F 1 true
    ∷ Out 0x20 0x0B ∷ In 0x20 0x04 ∷ Out 0xA0 0x0B ∷ In 0xA0 0x00
    ∷ Lines (0 ∷ 5 ∷ []) 0 ∷ Ack 0x27 0 true
    ∷ Out 0x20 0x20 ∷ Ack 0x25 0 false ∷ []

unfoldable pub SpuriousAnswers : Type 0
SpuriousAnswers = Answers spurious_answers

-- a level triggered line of the slave is pending until it falls
abbrev pub a_level_stays : List Line
a_level_stays =
    Lines (0 ∷ []) 0x0800 ∷ Lines (0 ∷ 11 ∷ []) 0x0800 ∷ Ack 0x2B 1 false
    ∷ Out 0xA0 0x20 ∷ Out 0x20 0x20 ∷ Ack 0x2B 1 false
    ∷ Out 0xA0 0x20 ∷ Out 0x20 0x20 ∷ Lines (0 ∷ []) 0x0800 ∷ Ack 0x2F 1 true ∷ []

unfoldable pub ALevelStays : Type 0
ALevelStays = Answers a_level_stays

-- a rise sets the latch of a level triggered line too, which shows once it is edge triggered
abbrev pub an_edge_is_kept : List Line
an_edge_is_kept =
    Lines (0 ∷ 3 ∷ []) 0x0008 ∷ In 0x20 0x08 ∷ Lines (0 ∷ 3 ∷ []) 0 ∷ In 0x20 0x08
    ∷ Ack 0x23 0 false ∷ In 0x20 0x00 ∷ Lines (0 ∷ 3 ∷ []) 0x0008 ∷ In 0x20 0x08 ∷ []

unfoldable pub AnEdgeIsKept : Type 0
AnEdgeIsKept = Answers an_edge_is_kept

-- a higher level interrupts a lower one, and is the first to end
abbrev pub the_higher_ends_first : List Line
the_higher_ends_first =
    Lines (0 ∷ 5 ∷ []) 0 ∷ Ack 0x25 0 false ∷ Lines (0 ∷ 3 ∷ 5 ∷ []) 0 ∷ Ack 0x23 0 false
    ∷ Out 0x20 0x20 ∷ Out 0x20 0x0B ∷ In 0x20 0x20 ∷ []

unfoldable pub TheHigherEndsFirst : Type 0
TheHigherEndsFirst = Answers the_higher_ends_first

-- ICW1 clears the mask, what was in service and what is latched, and a read gives the pending levels again
abbrev pub a_new_beginning : List Line
a_new_beginning =
    Lines (0 ∷ 5 ∷ []) 0 ∷ Ack 0x25 0 false ∷ Lines (0 ∷ 5 ∷ 6 ∷ []) 0 ∷ Out 0x21 0xFE ∷ In 0x21 0xFE
    ∷ Out 0x20 0x0B ∷ In 0x20 0x20 ∷ Out 0x20 0x13 ∷ In 0x21 0x00 ∷ In 0x20 0x00 ∷ Out 0x20 0x0B ∷ In 0x20 0x00 ∷ []

unfoldable pub ANewBeginning : Type 0
ANewBeginning = Answers a_new_beginning

-- without ICW3 and with ICW4; the chip stays ready meanwhile; a line that fell is spurious
abbrev pub a_short_sequence : List Line
a_short_sequence =
    Out 0x20 0x13 ∷ Lines (0 ∷ 3 ∷ []) 0 ∷ Ack 0x23 0 false ∷ Out 0x20 0x20 ∷ Out 0x21 0x47
    ∷ Lines (0 ∷ []) 0 ∷ Lines (0 ∷ 3 ∷ []) 0 ∷ Ack 0x43 0 false ∷ Out 0x20 0x20 ∷ Out 0x21 0x01
    ∷ Out 0x21 0x80 ∷ In 0x21 0x80 ∷ Lines (0 ∷ 4 ∷ []) 0 ∷ Lines (0 ∷ []) 0 ∷ Ack 0x47 0 true
    ∷ Lines (0 ∷ 7 ∷ []) 0 ∷ Ack 0x47 0 true ∷ []

unfoldable pub AShortSequence : Type 0
AShortSequence = Answers a_short_sequence

-- levels 3 and 5 are in service when a command with level 5 comes; what stays in service; and which of the
-- lines 1, 4 and 6 is first, once both have ended
abbrev pub after_command : (command in_service first : ℕ) → List Line
after_command command in_service first =
    Lines (0 ∷ 5 ∷ []) 0 ∷ Ack 0x25 0 false ∷ Lines (0 ∷ 3 ∷ 5 ∷ []) 0 ∷ Ack 0x23 0 false
    ∷ Out 0x20 command ∷ Out 0x20 0x0B ∷ In 0x20 in_service ∷ Out 0x20 0x63 ∷ Out 0x20 0x65
    ∷ Lines (0 ∷ 1 ∷ 4 ∷ 6 ∷ []) 0 ∷ Ack first 0 false ∷ []

pub record EachCommand : Type 0 where
  pub non_specific_end : Answers (after_command 0x25 0x20 0x21)
  pub specific_end : Answers (after_command 0x65 0x08 0x21)
  pub rotating_end : Answers (after_command 0xA5 0x20 0x24)
  pub rotating_specific_end : Answers (after_command 0xE5 0x08 0x26)
  pub set_rotation : Answers (after_command 0x85 0x28 0x21)
  pub clear_rotation : Answers (after_command 0x05 0x28 0x21)
  pub set_priority : Answers (after_command 0xC5 0x28 0x26)
  pub rotating_end_of_another : Answers (after_command 0xE6 0x28 0x21)
  pub set_another_priority : Answers (after_command 0xC6 0x28 0x21)
  pub no_operation : Answers (after_command 0x45 0x28 0x21)

-- special mask mode: level 3, in service and masked, lets level 5 pass, and is passed over by the end
abbrev pub special_mask : List Line
special_mask =
    Lines (0 ∷ 3 ∷ []) 0 ∷ Ack 0x23 0 false ∷ Out 0x21 0x08 ∷ Lines (0 ∷ 5 ∷ []) 0 ∷ Ack 0x27 0 true
    ∷ Out 0x20 0x68 ∷ Ack 0x25 0 false ∷ Out 0x20 0x20 ∷ Out 0x20 0x0B ∷ In 0x20 0x08
    ∷ Out 0x20 0x08 ∷ Out 0x20 0x20 ∷ In 0x20 0x08 ∷ Out 0x20 0x48 ∷ Out 0x20 0x20 ∷ In 0x20 0x00 ∷ []

unfoldable pub SpecialMask : Type 0
SpecialMask = Answers special_mask

-- which register a read gives, until the other is chosen; a masked level is pending and waits
abbrev pub chosen_registers : List Line
chosen_registers =
    Lines (0 ∷ 3 ∷ []) 0 ∷ In 0x20 0x08 ∷ Out 0x20 0x0B ∷ In 0x20 0x00 ∷ Out 0x20 0x08 ∷ In 0x20 0x00
    ∷ Out 0x20 0x0A ∷ In 0x20 0x08 ∷ Out 0x21 0x08 ∷ In 0x20 0x08 ∷ In 0x21 0x08 ∷ Ack 0x27 0 true
    ∷ Out 0x21 0xF7 ∷ Ack 0x23 0 false ∷ []

unfoldable pub ChosenRegisters : Type 0
ChosenRegisters = Answers chosen_registers

-- a poll acknowledges by a read of either port, and reads 0 where nothing is asked
abbrev pub polls : List Line
polls =
    Lines (0 ∷ 6 ∷ []) 0 ∷ Out 0x20 0x0C ∷ Out 0x20 0x08 ∷ In 0x20 0x86 ∷ In 0x20 0x00 ∷ Out 0x20 0x0B ∷ In 0x20 0x40
    ∷ Out 0x21 0x08 ∷ Out 0x20 0x0C ∷ In 0x21 0x00 ∷ In 0x21 0x08 ∷ Lines (0 ∷ 4 ∷ []) 0 ∷ Out 0x20 0x0C ∷ In 0x21 0x84
    ∷ Out 0x20 0x0C ∷ Out 0x20 0x11 ∷ Lines (0 ∷ 5 ∷ []) 0 ∷ In 0x20 0x20 ∷ []

unfoldable pub Polls : Type 0
Polls = Answers polls

-- a poll of the slave leaves the latch of input 2, and one of the master leaves the slave's request
abbrev pub polls_of_one : List Line
polls_of_one =
    Lines (0 ∷ 10 ∷ []) 0 ∷ Out 0xA0 0x0C ∷ In 0xA0 0x82 ∷ Out 0xA0 0x0B ∷ In 0xA1 0x00 ∷ In 0xA0 0x04
    ∷ Ack 0x2F 1 true ∷ Out 0x20 0x20 ∷ Lines (0 ∷ 9 ∷ []) 0 ∷ Out 0x20 0x0C ∷ In 0x20 0x82
    ∷ In 0x20 0x04 ∷ Out 0x20 0x20 ∷ Ack 0x29 1 false ∷ []

unfoldable pub PollsOfOne : Type 0
PollsOfOne = Answers polls_of_one

-- ICW1 without ICW4 ends automatic end of interrupt, its rotation and the order that it left
abbrev pub order_ends : List Line
order_ends =
    Out 0x20 0x13 ∷ Out 0x21 0x20 ∷ Out 0x21 0x03 ∷ Out 0x20 0x80 ∷ Lines (0 ∷ 3 ∷ []) 0 ∷ Ack 0x23 0 false
    ∷ Out 0x20 0x12 ∷ Out 0x21 0x20 ∷ Lines (0 ∷ 1 ∷ 4 ∷ []) 0 ∷ Ack 0x21 0 false ∷ Out 0x20 0x0B ∷ In 0x20 0x02 ∷ []

abbrev pub rotation_ends : List Line
rotation_ends =
    Out 0x20 0x80 ∷ Out 0x20 0x13 ∷ Out 0x21 0x20 ∷ Out 0x21 0x03 ∷ Lines (0 ∷ 1 ∷ 4 ∷ []) 0 ∷ Ack 0x21 0 false
    ∷ Ack 0x24 0 false ∷ Lines (0 ∷ []) 0 ∷ Lines (0 ∷ 1 ∷ 5 ∷ []) 0 ∷ Ack 0x21 0 false ∷ []

-- and special mask mode and special fully nested mode
abbrev pub special_mask_ends : List Line
special_mask_ends =
    Out 0x20 0x68 ∷ Out 0x20 0x12 ∷ Out 0x21 0x20 ∷ Lines (0 ∷ 3 ∷ []) 0 ∷ Ack 0x23 0 false ∷ Out 0x21 0x08
    ∷ Lines (0 ∷ 3 ∷ 5 ∷ []) 0 ∷ Ack 0x27 0 true ∷ []

abbrev pub nesting_ends : List Line
nesting_ends =
    Out 0x20 0x11 ∷ Out 0x21 0x20 ∷ Out 0x21 0x04 ∷ Out 0x21 0x11 ∷ Out 0x20 0x10 ∷ Out 0x21 0x20 ∷ Out 0x21 0x04
    ∷ Lines (0 ∷ 12 ∷ []) 0 ∷ Ack 0x2C 1 false ∷ Lines (0 ∷ 10 ∷ 12 ∷ []) 0 ∷ Ack 0x27 0 true ∷ []

pub record ModesEnd : Type 0 where
  pub order : Answers order_ends
  pub rotation : Answers rotation_ends
  pub special_mask : Answers special_mask_ends
  pub nesting : Answers nesting_ends

-- automatic end of interrupt, with rotation and without, and rotation alone, which then does nothing
abbrev pub automatic_end : List Line
automatic_end =
    Out 0x20 0x13 ∷ Out 0x21 0x20 ∷ Out 0x21 0x03 ∷ Out 0x20 0x80
    ∷ Lines (0 ∷ 3 ∷ 5 ∷ []) 0 ∷ Ack 0x23 0 false ∷ Lines (0 ∷ 1 ∷ 3 ∷ 5 ∷ []) 0 ∷ Ack 0x25 0 false
    ∷ Ack 0x21 0 false ∷ Out 0x20 0x0B ∷ In 0x20 0x00 ∷ []

abbrev pub without_rotation : List Line
without_rotation =
    Out 0x20 0x13 ∷ Out 0x21 0x20 ∷ Out 0x21 0x03 ∷ Out 0x20 0x80 ∷ Out 0x20 0x00
    ∷ Lines (0 ∷ 3 ∷ 5 ∷ []) 0 ∷ Ack 0x23 0 false ∷ Lines (0 ∷ 1 ∷ 3 ∷ 5 ∷ []) 0 ∷ Ack 0x21 0 false
    ∷ Ack 0x25 0 false ∷ []

abbrev pub rotation_alone : List Line
rotation_alone =
    Out 0x20 0x80 ∷ Lines (0 ∷ 3 ∷ []) 0 ∷ Ack 0x23 0 false ∷ Out 0x20 0x20 ∷ Lines (0 ∷ 1 ∷ 4 ∷ []) 0
    ∷ Ack 0x21 0 false ∷ []

-- of the slave, whose next request is then at once at input 2
abbrev pub automatic_end_of_slave : List Line
automatic_end_of_slave =
    Out 0xA0 0x11 ∷ Out 0xA1 0x28 ∷ Out 0xA1 0x02 ∷ Out 0xA1 0x03 ∷ Lines (0 ∷ 10 ∷ 12 ∷ []) 0 ∷ Ack 0x2A 1 false
    ∷ In 0x20 0x04 ∷ In 0xA0 0x10 ∷ Out 0x20 0x20 ∷ Ack 0x2C 1 false ∷ In 0x20 0x00 ∷ []

pub record AutomaticEnd : Type 0 where
  pub rotating : Answers automatic_end
  pub fixed : Answers without_rotation
  pub rotation_only : Answers rotation_alone
  pub of_slave : Answers automatic_end_of_slave

-- ICW4 of the master, and the answer to a higher line of the slave while a lower one is served
abbrev pub nested : (mode vector chip : ℕ) → (is_spurious : Bool) → List Line
nested mode vector chip is_spurious =
    Out 0x20 0x11 ∷ Out 0x21 0x20 ∷ Out 0x21 0x04 ∷ Out 0x21 mode
    ∷ Lines (0 ∷ 12 ∷ []) 0 ∷ Ack 0x2C 1 false ∷ Lines (0 ∷ 10 ∷ 12 ∷ []) 0 ∷ Ack vector chip is_spurious ∷ []

-- the same for the slave, whose input 2 has no slave
abbrev pub nested_slave : List Line
nested_slave =
    Out 0xA0 0x11 ∷ Out 0xA1 0x28 ∷ Out 0xA1 0x02 ∷ Out 0xA1 0x11
    ∷ Lines (0 ∷ 10 ∷ []) 0 ∷ Ack 0x2A 1 false ∷ Out 0x20 0x20
    ∷ Lines (0 ∷ []) 0 ∷ Lines (0 ∷ 10 ∷ []) 0 ∷ Ack 0x27 0 true ∷ []

pub record FullyNested : Type 0 where
  pub special : Answers (nested 0x11 0x2A 1 false)
  pub plain : Answers (nested 0x01 0x27 0 true)
  pub slave : Answers nested_slave

-- a level 2 that is served again as soon as the slave asks again; its lines 8 and 15
abbrev pub cascaded : List Line
cascaded =
    Lines (0 ∷ 8 ∷ 15 ∷ []) 0 ∷ Ack 0x28 1 false ∷ Out 0xA0 0x20 ∷ Out 0x20 0x62 ∷ Ack 0x2F 1 false
    ∷ Out 0xA0 0x0B ∷ In 0xA0 0x80 ∷ []

-- line 2 reaches no input
abbrev pub no_line_2 : List Line
no_line_2 = Lines (0 ∷ 2 ∷ []) 0x0004 ∷ In 0x20 0x00 ∷ Ack 0x27 0 true ∷ []

pub record Cascaded : Type 0 where
  pub slave : Answers cascaded
  pub no_line : Answers no_line_2

-- after a reset the levels are those of that moment, so that a line that is 1 then has not risen
abbrev pub reset_at_levels : List Line
reset_at_levels =
    Out 0x20 0x13 ∷ Out 0x21 0x20 ∷ Out 0x21 0x01 ∷ Lines (0 ∷ 5 ∷ 9 ∷ []) 0 ∷ In 0x20 0x00 ∷ In 0xA0 0x00
    ∷ Ack 0x27 0 true ∷ Lines [] 0 ∷ Lines (0 ∷ []) 0 ∷ Ack 0x20 0 false ∷ []

unfoldable pub ResetAtLevels : Type 0
ResetAtLevels = Gives (pair_at_reset (levels_at (0 ∷ 5 ∷ 9 ∷ []))) reset_at_levels
