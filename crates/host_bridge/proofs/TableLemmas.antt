-- The registers of the host bridge in the table of registers.
use Rattle.std.proofs.Common.{◌≡◌, ℕ, ◌+◌, ◌<◌, ◌≤◌, List, [], ◌∷◌, length, refl, arith, map, slice_index, Bool, true}
use Rattle.std.proofs.Common.{nat_lt, nat_le, ◌&&◌, ◌||◌, rules}
use Rattle.board_prelude.proofs.{Setup, host_bridge, listed, reset_byte, writable_bits, Bytes, bridge, drb, listed-past}
use Rattle.board_prelude.proofs.{listed-before, each_below, nat_tests}
use Rattle.board_spec.specs.RegisterTable.{Line}
use Rattle.host_bridge.specs.Pmc.{IsFixedOffset, IsRowsOf}

-- ---- the rows

-- the bytes of DRB0 to DRB7
abbrev pub row_bytes : Bytes → List ℕ
row_bytes bytes = map (λ row. bytes (drb row)) (0 ∷ 1 ∷ 2 ∷ 3 ∷ 4 ∷ 5 ∷ 6 ∷ 7 ∷ [])

pub rows_are : (bytes : Bytes) (ends : List ℕ) → ends ≡ row_bytes bytes → IsRowsOf bytes ends
rows_are bytes ends are row below =
    rw are
    (each_below (λ row. slice_index (row_bytes bytes) row ≡ bytes (drb row)) 8 row (search rules) below)

pub writable_bits-row : (setup : Setup) (row : ℕ) → row < 8 → writable_bits setup (bridge (0x60 + row)) ≡ 0xFF
unfolding writable_bits host_bridge
writable_bits-row setup row below =
    each_below (λ row. writable_bits setup (bridge (0x60 + row)) ≡ 0xFF) 8 row (search rules) below

-- ---- the fixed registers

-- the bytes of the header
abbrev pub header : List ℕ
header = 0x86 ∷ 0x80 ∷ 0x37 ∷ 0x12 ∷ 0x06 ∷ 0x00 ∷ 0x80 ∷ 0x02 ∷ 0x00 ∷ 0x00 ∷ 0x00 ∷ 0x06 ∷ []

pub reset_byte-header : (setup : Setup) (off : ℕ) → off < 12 → slice_index header off ≡ reset_byte setup (bridge off)
unfolding reset_byte host_bridge
reset_byte-header setup off below =
    each_below (λ off. slice_index header off ≡ reset_byte setup (bridge off)) 12 off (search rules) below

pub header_byte : (off : ℕ) → off < 12 → slice_index header off < 256
header_byte off below = each_below (λ off. slice_index header off < 256) 12 off (search rules) below

-- an offset lies outside all lines
abbrev is_outside : ℕ → List Line → Bool
is_outside off [] = true
is_outside off (entry ∷ later) =
    (nat_lt off entry.first || nat_le (entry.first + length entry.reset) off) && is_outside off later

unlisted : (column : Line → List ℕ) (lines : List Line) (off : ℕ) → is_outside off lines ≡ true →
    listed column lines off ≡ 0
unlisted column [] off outside = refl
unlisted column (entry ∷ later) off outside =
    grind (arith, nat_tests, listed-before, listed-past, unlisted column later off)

-- a fixed offset past the header lies outside all lines
outside : (off : ℕ) → IsFixedOffset off → 12 ≤ off → is_outside off host_bridge ≡ true
unfolding host_bridge
outside off fixed from = grind (arith, nat_tests)

pub reset_byte-blank : (setup : Setup) (off : ℕ) → IsFixedOffset off → 12 ≤ off → reset_byte setup (bridge off) ≡ 0
unfolding reset_byte
reset_byte-blank setup off fixed from = unlisted (λ entry. entry.reset) host_bridge off (outside off fixed from)

pub ruleset fixed_registers = (nat_tests, reset_byte-header, reset_byte-blank)

pub writable_bits-fixed : (setup : Setup) (off : ℕ) → IsFixedOffset off → writable_bits setup (bridge off) ≡ 0
unfolding writable_bits host_bridge
writable_bits-fixed setup off fixed = grind (arith, nat_tests, each_below, unlisted, outside)
