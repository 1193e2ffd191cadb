-- Worked examples of the 8259A pair, the 8254, port 61h and the clock, each as a legal history of its board.
use Rattle.std.specs.Prelude.{List, [], ◌∷◌, ◌++◌, true, false, None}
use Rattle.board_prelude.specs.{One, Moment, Pic0, Pic1, Pit, System, Elcr, Vector, Spurious, Setup, IsLegal}
use Rattle.board_base.specs.declared.target.Dev.TheVariants.{Clock}
use Rattle.board_examples.specs.Words.{Said, from_reset, selects, outputs, goes_to, register, puts, gets, acknowledges}
use Rattle.board_examples.specs.Words.{pulses, wire, line, tells}
use Rattle.board_examples.specs.Basics.{board_of, small_board}

-- ---- the 8254

-- counter 0 divides by 5 as a square wave; its status and count are latched and read after some pulses
abbrev pub timer_latched : List Said
timer_latched =
    puts Pit 0x43 0x16
    ∷ puts Pit 0x40 0x05
    ∷ puts Pit 0x43 0xC2
    ∷ gets Pit 0x40 0xD6
    ∷ gets Pit 0x40 0x00
    ∷ pulses 3
    ∷ puts Pit 0x43 0xC2
    ∷ gets Pit 0x40 0x96
    ∷ gets Pit 0x40 0x00
    ∷ pulses 1
    ∷ puts Pit 0x43 0xC2
    ∷ gets Pit 0x40 0x16
    ∷ gets Pit 0x40 0x04
    ∷ pulses 8
    ∷ puts Pit 0x43 0xC2
    ∷ gets Pit 0x40 0x96
    ∷ gets Pit 0x40 0x02
    ∷ []

unfoldable pub TimerLatched : Type 0
TimerLatched = IsLegal small_board (from_reset timer_latched)

-- port 61h: bit 4 flips after each read, and OUT of counter 2 is 1 from reset on
abbrev pub system_port : List Said
system_port =
    gets System 0x61 0x20
    ∷ gets System 0x61 0x30
    ∷ puts System 0x61 0x03
    ∷ gets System 0x61 0x23
    ∷ []

unfoldable pub SystemPort : Type 0
SystemPort = IsLegal small_board (from_reset system_port)

-- ---- the 8259A pair

-- both chips get their vectors, 20h and 28h, and no further mode
abbrev pub initialised : List Said
initialised =
    puts Pic0 0x20 0x11
    ∷ puts Pic0 0x21 0x20
    ∷ puts Pic0 0x21 0x04
    ∷ puts Pic0 0x21 0x01
    ∷ puts Pic1 0xA0 0x11
    ∷ puts Pic1 0xA1 0x28
    ∷ puts Pic1 0xA1 0x02
    ∷ puts Pic1 0xA1 0x01
    ∷ []

-- a line of the slave falls before the acknowledge: the slave answers spuriously, and the master has level 2
-- in service, which holds level 5 back until its end of interrupt
abbrev pub fallen_line : List Said
fallen_line =
    initialised
    ++ line 10 true
    ∷ line 10 false
    ∷ acknowledges 0x2F (Spurious 1)
    ∷ puts Pic0 0x20 0x0B
    ∷ gets Pic0 0x20 0x04
    ∷ puts Pic1 0xA0 0x0B
    ∷ gets Pic1 0xA0 0x00
    ∷ line 5 true
    ∷ acknowledges 0x27 (Spurious 0)
    ∷ puts Pic0 0x20 0x20
    ∷ acknowledges 0x25 (Vector 0)
    ∷ []

unfoldable pub FallenLine : Type 0
FallenLine = IsLegal small_board (from_reset fallen_line)

-- a higher level interrupts a lower one, and the end of interrupt ends the higher
abbrev pub nested_interrupts : List Said
nested_interrupts =
    initialised
    ++ line 5 true
    ∷ acknowledges 0x25 (Vector 0)
    ∷ line 3 true
    ∷ acknowledges 0x23 (Vector 0)
    ∷ puts Pic0 0x20 0x20
    ∷ puts Pic0 0x20 0x0B
    ∷ gets Pic0 0x20 0x20
    ∷ []

unfoldable pub NestedInterrupts : Type 0
NestedInterrupts = IsLegal small_board (from_reset nested_interrupts)

-- a read that polls acknowledges the level, and the next read polls no more
abbrev pub polled : List Said
polled =
    initialised
    ++ line 5 true
    ∷ puts Pic0 0x20 0x0C
    ∷ gets Pic0 0x20 0x85
    ∷ gets Pic0 0x20 0x00
    ∷ puts Pic0 0x20 0x0B
    ∷ gets Pic0 0x20 0x20
    ∷ []

unfoldable pub Polled : Type 0
Polled = IsLegal small_board (from_reset polled)

-- ---- a card's wire

-- INTA# of card 4 goes to PIRQD, which is routed to line 11, level triggered
abbrev pub routed_wire : List Said
routed_wire =
    acknowledges 0x07 (Spurious 0)
    ∷ (initialised
    ++ selects 0x8000_0860
    ∷ outputs One 0xCFF 0x0B (goes_to (register 1 0 0x63))
    ∷ puts Elcr 0x4D1 0x08
    ∷ wire 4 true
    ∷ acknowledges 0x2B (Vector 1)
    ∷ puts Pic1 0xA0 0x20
    ∷ puts Pic0 0x20 0x20
    ∷ acknowledges 0x2B (Vector 1)
    ∷ [])

abbrev pub plain_card_board : Setup
plain_card_board = board_of 8 (record { dev = 4; vga = false; bases = []; rom = None } ∷ [])

unfoldable pub RoutedWire : Type 0
RoutedWire = IsLegal plain_card_board (from_reset routed_wire)

-- ---- the clock

abbrev pub leap_day : Moment
leap_day = record { year = 2024; month = 2; day = 29; weekday = 5; hour = 23; minute = 59; second = 58 }

-- hour, weekday, day, year, and the flag of the update, which a read clears; then the hour in 12-hour form,
-- which is 11 with bit 7
abbrev pub clock_told : List Said
clock_told =
    tells leap_day
    ∷ puts Clock 0x70 0x04
    ∷ gets Clock 0x71 0x23
    ∷ puts Clock 0x70 0x06
    ∷ gets Clock 0x71 0x05
    ∷ puts Clock 0x70 0x07
    ∷ gets Clock 0x71 0x29
    ∷ puts Clock 0x70 0x09
    ∷ gets Clock 0x71 0x24
    ∷ puts Clock 0x70 0x0C
    ∷ gets Clock 0x71 0x10
    ∷ puts Clock 0x70 0x0C
    ∷ gets Clock 0x71 0x00
    ∷ puts Clock 0x70 0x0B
    ∷ puts Clock 0x71 0x00
    ∷ tells leap_day
    ∷ puts Clock 0x70 0x04
    ∷ gets Clock 0x71 0x91
    ∷ []

unfoldable pub ClockTold : Type 0
ClockTold = IsLegal small_board (from_reset clock_told)
