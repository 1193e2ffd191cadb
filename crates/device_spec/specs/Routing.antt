-- The routing of the four PCI interrupt pins to the sixteen interrupt lines
-- (82371SB, PIRQRC: PIRQx Route Control Registers, of function 0).
use Rattle.std.specs.Prelude.{ℕ, Bool, false, Option, Some, None, List, [], ◌∷◌, ◌+◌, ◌-◌, ◌%◌, ◌==◌, ◌&&◌, ◌||◌, not}
use Rattle.std.specs.Prelude.{nat_lt, nat_le, if◌then◌else◌, slice_index, slice_index_or, slice_set}
use Rattle.std.specs.List.{list_any}
use Rattle.board_base.specs.Bits.{merged}

-- the bits of a route control register that can be written: 7, and 3 to 0 (82371SB, PIRQRC; bits 6 to 4 are reserved)
abbrev pub route_mask : ℕ
route_mask = 0x8F

-- the offset of the first of the four registers, PIRQRCA (82371SB, PIRQRC)
abbrev pub first_route : ℕ
first_route = 0x60

-- the routing disabled, as after a reset (82371SB, PIRQRC, default value)
abbrev pub route_reset : ℕ
route_reset = 0x80

-- The registers are the list of their four bytes, A to D.
abbrev pub Routes : Type 0
Routes = List ℕ

-- whether an offset of the function's configuration space is that of a route control register
abbrev pub is_route_offset : ℕ → Bool
is_route_offset offset = nat_le first_route offset && nat_lt offset (first_route + 4)

-- the byte at an offset: 0 where no register is
abbrev pub route_byte : Routes → ℕ → ℕ
route_byte routes offset = if is_route_offset offset then slice_index routes (offset - first_route) else 0

-- the registers after a write at an offset
abbrev pub routes_after_write : Routes → ℕ → ℕ → Routes
routes_after_write routes offset byte =
    if is_route_offset offset
    then slice_set routes (offset - first_route) (merged route_mask (route_byte routes offset) byte)
    else routes

-- the lines that no pin can be routed to: the timer's, the keyboard's, the cascade, the clock's and 13
-- (82371SB, PIRQRC, bits 3 to 0: reserved)
abbrev pub is_reserved_line : ℕ → Bool
is_reserved_line line = line == 0 || line == 1 || line == 2 || line == 8 || line == 13

-- bit 7 of a route control byte at 0 enables the routing (82371SB, PIRQRC, bit 7)
abbrev pub is_routed : ℕ → Bool
is_routed byte = nat_lt byte 0x80

-- the line in its bits 3 to 0 (82371SB, PIRQRC)
abbrev pub line_in : ℕ → ℕ
line_in byte = byte % 16

-- The line that a route control byte routes its pin to, where that line is not reserved.
abbrev pub line_of_route : ℕ → Option ℕ
line_of_route byte = if is_routed byte && not (is_reserved_line (line_in byte)) then Some (line_in byte) else None

-- whether a pin at this level, with this route, holds the line at 1
abbrev pub drives : Option ℕ → Bool → ℕ → Bool
drives None level line = false
drives (Some routed) level line = level && (routed == line)

-- the pins, PIRQA# to PIRQD#
abbrev pub all_pins : List ℕ
all_pins = 0 ∷ 1 ∷ 2 ∷ 3 ∷ []

-- whether the pins, at these levels, hold the line at 1: where a pin that is routed to it is 1
unfoldable pub is_line_driven : Routes → List Bool → ℕ → Bool
is_line_driven routes pins line =
    list_any (λ pin. drives (line_of_route (slice_index routes pin)) (slice_index_or pins pin false) line) all_pins
