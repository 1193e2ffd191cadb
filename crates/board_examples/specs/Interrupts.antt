-- Worked examples of the interrupt lines: what raises them, when their levels reach the 8259A pair, and what a
-- hard reset leaves.
use Rattle.std.specs.Prelude.{ℕ, List, [], ◌∷◌, ◌++◌, true, false, None, Some, replicate}
use Rattle.board_base.specs.declared.access.Width.TheVariants.{Four}
use Rattle.board_base.specs.declared.target.Dev.TheVariants.{Reset, Clock}
use Rattle.board_prelude.specs.{Pic0, Pic1, Pit, System, Elcr, Ata, Vector, Spurious, FittedCard, Setup, IsLegal}
use Rattle.board_examples.specs.Words.{Said, from_reset, selects, outputs, goes_to, register, puts, gets, acknowledges}
use Rattle.board_examples.specs.Words.{pulses, wire, line, tells, spoils}
use Rattle.board_examples.specs.Basics.{board_of, small_board}
use Rattle.board_examples.specs.Devices.{initialised, leap_day}
use Rattle.board_examples.specs.Disk.{enabled, commands}

-- ---- the timer

-- counter 0 counts 4 in mode 2: its OUT falls with the fourth pulse and rises with the fifth. Each single pulse
-- reaches the pair, so five at once latch line 0, and three more, which end with a fall, unlatch it
abbrev pub each_pulse : List Said
each_pulse =
    initialised
    ++ puts Pit 0x43 0x14
    ∷ puts Pit 0x40 0x04
    ∷ gets Pic0 0x20 0x00
    ∷ pulses 5
    ∷ gets Pic0 0x20 0x01
    ∷ pulses 3
    ∷ gets Pic0 0x20 0x00
    ∷ acknowledges 0x27 (Spurious 0)
    ∷ pulses 1
    ∷ acknowledges 0x20 (Vector 0)
    ∷ []

unfoldable pub EachPulse : Type 0
EachPulse = IsLegal small_board (from_reset each_pulse)

-- counter 2 counts while bit 0 of port 61h is 1
abbrev pub gated_counter : List Said
gated_counter =
    puts Pit 0x43 0xB0
    ∷ gets System 0x61 0x00
    ∷ puts Pit 0x42 0x01
    ∷ puts Pit 0x42 0x00
    ∷ puts System 0x61 0xFE
    ∷ pulses 2
    ∷ gets System 0x61 0x12
    ∷ puts System 0x61 0x01
    ∷ pulses 1
    ∷ gets System 0x61 0x21
    ∷ gets Pit 0x43 0xFF
    ∷ []

unfoldable pub GatedCounter : Type 0
GatedCounter = IsLegal small_board (from_reset gated_counter)

-- ---- the clock and the disk

-- an update of the clock raises line 8 where UIE lets it, and a read of register C lets the line fall
abbrev pub clock_interrupts : List Said
clock_interrupts =
    initialised
    ++ tells leap_day
    ∷ gets Pic1 0xA0 0x00
    ∷ puts Clock 0x70 0x0B
    ∷ puts Clock 0x71 0x12
    ∷ gets Pic1 0xA0 0x01
    ∷ acknowledges 0x28 (Vector 1)
    ∷ puts Clock 0x70 0x0C
    ∷ gets Clock 0x71 0x90
    ∷ puts Pic1 0xA0 0x20
    ∷ puts Pic0 0x20 0x20
    ∷ tells leap_day
    ∷ acknowledges 0x28 (Vector 1)
    ∷ []

unfoldable pub ClockInterrupts : Type 0
ClockInterrupts = IsLegal small_board (from_reset clock_interrupts)

-- a disk of one sector
abbrev pub sector_board : Setup
sector_board = record small_board { disk = Some (replicate 512 0x00) }

-- the disk's request raises line 14, and a read of the status takes it away
abbrev pub disk_interrupts : List Said
disk_interrupts =
    enabled
    ++ commands 0x01 0x00 0x20
    ++ gets Pic1 0xA0 0x40
    ∷ gets Ata 0x1F7 0x58
    ∷ gets Pic1 0xA0 0x00
    ∷ []

unfoldable pub DiskInterrupts : Type 0
DiskInterrupts = IsLegal sector_board (from_reset disk_interrupts)

-- ---- wires

abbrev pub plain_card : ℕ → FittedCard
plain_card dev = record { dev = dev; vga = false; bases = []; rom = None }

abbrev pub wired_board : Setup
wired_board = board_of 8 (plain_card 2 ∷ plain_card 3 ∷ plain_card 4 ∷ plain_card 5 ∷ plain_card 8 ∷ plain_card 9 ∷ [])

-- PIRQA to PIRQD go to lines 15, 7, 9 and 11. Cards 5 and 9 share PIRQA, and 4 and 8 share PIRQD
abbrev pub shared_wires : List Said
shared_wires =
    puts Elcr 0x4D0 0x80
    ∷ puts Elcr 0x4D1 0x8A
    ∷ selects 0x8000_0860
    ∷ outputs Four 0xCFC 0x0B09_070F (goes_to (register 1 0 0x60))
    ∷ wire 5 true
    ∷ gets Pic1 0xA0 0x80
    ∷ wire 9 true
    ∷ wire 5 false
    ∷ gets Pic1 0xA0 0x80
    ∷ wire 2 true
    ∷ gets Pic0 0x20 0x80
    ∷ wire 3 true
    ∷ wire 9 false
    ∷ gets Pic1 0xA0 0x02
    ∷ wire 8 true
    ∷ gets Pic1 0xA0 0x0A
    ∷ outputs Four 0xCFC 0x8B08_0D02 (goes_to (register 1 0 0x60))
    ∷ gets Pic0 0x20 0x00
    ∷ gets Pic1 0xA0 0x00
    ∷ line 9 true
    ∷ gets Pic1 0xA0 0x02
    ∷ []

unfoldable pub SharedWires : Type 0
SharedWires = IsLegal wired_board (from_reset shared_wires)

-- the lines that are set from outside, and their levels
abbrev pub free_lines : List Said
free_lines =
    line 1 true
    ∷ line 3 true
    ∷ line 4 true
    ∷ line 5 true
    ∷ line 6 true
    ∷ line 7 true
    ∷ line 9 true
    ∷ line 10 true
    ∷ line 11 true
    ∷ line 12 true
    ∷ line 15 true
    ∷ gets Pic0 0x20 0xFA
    ∷ gets Pic1 0xA0 0x9E
    ∷ line 7 false
    ∷ line 12 false
    ∷ gets Pic0 0x20 0x7A
    ∷ gets Pic1 0xA0 0x8E
    ∷ []

unfoldable pub FreeLines : Type 0
FreeLines = IsLegal small_board (from_reset free_lines)

-- ---- a hard reset

-- the devices take their reset states, and then the pair with the levels of that moment: no line is latched. The
-- levels from outside and most bytes of the clock stay
abbrev pub devices_over_reset : List Said
devices_over_reset =
    puts Elcr 0x4D0 0xFF
    ∷ gets Elcr 0x4D0 0xF8
    ∷ puts Elcr 0x4D1 0xFF
    ∷ gets Elcr 0x4D1 0xDE
    ∷ line 5 true
    ∷ gets Pic0 0x20 0x20
    ∷ puts Pit 0x43 0x10
    ∷ gets System 0x61 0x20
    ∷ puts System 0x61 0x03
    ∷ gets System 0x61 0x33
    ∷ gets System 0x61 0x23
    ∷ puts Clock 0x70 0x40
    ∷ puts Clock 0x71 0x5A
    ∷ puts Clock 0x70 0x0B
    ∷ puts Clock 0x71 0x7A
    ∷ gets Clock 0x71 0x7A
    ∷ puts Reset 0xCF9 0x06
    ∷ gets Pic0 0x20 0x00
    ∷ gets Elcr 0x4D0 0x00
    ∷ gets Elcr 0x4D1 0x00
    ∷ gets System 0x61 0x20
    ∷ gets Clock 0x71 0x00
    ∷ puts Clock 0x70 0x0B
    ∷ gets Clock 0x71 0x02
    ∷ puts Clock 0x70 0x40
    ∷ gets Clock 0x71 0x5A
    ∷ puts Pit 0x43 0xE2
    ∷ gets Pit 0x40 0xF6
    ∷ line 5 true
    ∷ gets Pic0 0x20 0x00
    ∷ puts Elcr 0x4D0 0x20
    ∷ gets Pic0 0x20 0x20
    ∷ puts Elcr 0x4D0 0x00
    ∷ gets Pic0 0x20 0x00
    ∷ line 5 false
    ∷ line 5 true
    ∷ gets Pic0 0x20 0x20
    ∷ []

unfoldable pub DevicesOverReset : Type 0
DevicesOverReset = IsLegal small_board (from_reset devices_over_reset)

-- the mask is read and written before ICW1 too: a reset leaves no level masked, and so does ICW1
abbrev pub mask_before_icw1 : List Said
mask_before_icw1 =
    gets Pic0 0x21 0x00
    ∷ gets Pic1 0xA1 0x00
    ∷ puts Pic0 0x21 0x5A
    ∷ puts Pic1 0xA1 0xC3
    ∷ gets Pic0 0x21 0x5A
    ∷ gets Pic1 0xA1 0xC3
    ∷ puts Reset 0xCF9 0x06
    ∷ gets Pic0 0x21 0x00
    ∷ gets Pic1 0xA1 0x00
    ∷ puts Pic0 0x21 0xFF
    ∷ gets Pic0 0x21 0xFF
    ∷ puts Pic0 0x20 0x11
    ∷ gets Pic0 0x21 0x00
    ∷ []

unfoldable pub MaskBeforeIcw1 : Type 0
MaskBeforeIcw1 = IsLegal small_board (from_reset mask_before_icw1)

-- the disk's registers and its enables take their reset states, and a bad sector stays bad
abbrev pub disk_over_reset : List Said
disk_over_reset =
    enabled
    ++ spoils 0
    ∷ puts Ata 0x1F2 0x07
    ∷ puts Reset 0xCF9 0x06
    ∷ (enabled
    ++ gets Ata 0x1F2 0x01
    ∷ (commands 0x01 0x00 0x20 ++ gets Ata 0x1F7 0x51 ∷ []))

unfoldable pub DiskOverReset : Type 0
DiskOverReset = IsLegal sector_board (from_reset disk_over_reset)
