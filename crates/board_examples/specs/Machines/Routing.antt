-- Worked examples of the PCI interrupt routing and of the edge/level control registers.
use Rattle.std.specs.Prelude.{◌≡◌, ℕ, Bool, true, false, List, [], ◌∷◌, map, replicate}
use Rattle.board_prelude.specs.{Routes, route_reset, route_byte, routes_after_write, is_line_driven, triggers_at_reset}
use Rattle.board_prelude.specs.{triggers_after_write, trigger_byte}

-- ---- the route control registers

abbrev pub disabled : Routes
disabled = replicate 4 route_reset

abbrev pub offsets : List ℕ
offsets = 0x5F ∷ 0x60 ∷ 0x61 ∷ 0x62 ∷ 0x63 ∷ 0x64 ∷ []

-- the bytes from offset 5Fh to 64h
abbrev pub route_bytes : Routes → List ℕ
route_bytes routes = map (route_byte routes) offsets

-- after a reset, and after bytes were written: bits 6 to 4 stay 0
pub record RouteBytes : Type 0 where
  pub reset : route_bytes disabled ≡ (0x00 ∷ 0x80 ∷ 0x80 ∷ 0x80 ∷ 0x80 ∷ 0x00 ∷ [])
  pub first : route_bytes (routes_after_write disabled 0x60 0x0B) ≡ (0x00 ∷ 0x0B ∷ 0x80 ∷ 0x80 ∷ 0x80 ∷ 0x00 ∷ [])
  pub all_ones : route_bytes (routes_after_write disabled 0x61 0xFF) ≡ (0x00 ∷ 0x80 ∷ 0x8F ∷ 0x80 ∷ 0x80 ∷ 0x00 ∷ [])
  pub masked : route_bytes (routes_after_write disabled 0x62 0x7A) ≡ (0x00 ∷ 0x80 ∷ 0x80 ∷ 0x0A ∷ 0x80 ∷ 0x00 ∷ [])
  pub last : route_bytes (routes_after_write disabled 0x63 0x70) ≡ (0x00 ∷ 0x80 ∷ 0x80 ∷ 0x80 ∷ 0x00 ∷ 0x00 ∷ [])
  pub before : routes_after_write disabled 0x5F 0x05 ≡ disabled
  pub past : routes_after_write disabled 0x64 0x05 ≡ disabled

abbrev pub all_lines : List ℕ
all_lines = 0 ∷ 1 ∷ 2 ∷ 3 ∷ 4 ∷ 5 ∷ 6 ∷ 7 ∷ 8 ∷ 9 ∷ 10 ∷ 11 ∷ 12 ∷ 13 ∷ 14 ∷ 15 ∷ []

abbrev pub driven : Routes → List Bool → List Bool
driven routes pins = map (is_line_driven routes pins) all_lines

abbrev pub no_lines : List Bool
no_lines = replicate 16 false

abbrev pub only_3_and_11 : List Bool
only_3_and_11 =
    false ∷ false ∷ false ∷ true ∷ false ∷ false ∷ false ∷ false ∷ false ∷ false ∷ false ∷ true ∷ false ∷ false ∷ false
    ∷ false ∷ []

-- INTA# of device 4 is PIRQD#, which is routed to line 11; PIRQA# goes to line 3 beside PIRQB#, and
-- PIRQC# is disabled
abbrev pub routed : Routes
routed = 0x03 ∷ 0x03 ∷ 0x8B ∷ 0x0B ∷ []

pub record LinesDriven : Type 0 where
  pub by_all : driven routed (true ∷ true ∷ true ∷ true ∷ []) ≡ only_3_and_11
  pub by_one_of_two : driven routed (false ∷ true ∷ false ∷ true ∷ []) ≡ only_3_and_11
  pub by_the_other : driven routed (true ∷ false ∷ false ∷ true ∷ []) ≡ only_3_and_11
  pub by_disabled : driven routed (false ∷ false ∷ true ∷ false ∷ []) ≡ no_lines
  pub by_none : driven routed (false ∷ false ∷ false ∷ false ∷ []) ≡ no_lines
  pub to_reserved : driven (0x00 ∷ 0x02 ∷ 0x08 ∷ 0x0D ∷ []) (true ∷ true ∷ true ∷ true ∷ []) ≡ no_lines

-- ---- the edge/level control registers

-- lines 0 to 2, 8 and 13 stay edge triggered, and a write of one register leaves the other
pub record TriggerBytes : Type 0 where
  pub reset_low : trigger_byte triggers_at_reset false ≡ 0x00
  pub reset_high : trigger_byte triggers_at_reset true ≡ 0x00
  pub low : trigger_byte (triggers_after_write triggers_at_reset false 0xFF) false ≡ 0xF8
  pub high : trigger_byte (triggers_after_write triggers_at_reset true 0xFF) true ≡ 0xDE
  pub other_high : trigger_byte (triggers_after_write triggers_at_reset false 0xFF) true ≡ 0x00
  pub other_low : trigger_byte (triggers_after_write triggers_at_reset true 0xFF) false ≡ 0x00
  pub again :
      trigger_byte (triggers_after_write (triggers_after_write triggers_at_reset true 0xFF) true 0x08) true ≡ 0x08
