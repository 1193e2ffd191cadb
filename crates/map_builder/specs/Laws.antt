-- What the laws say: each is proved on a function of `laws`.
use Rattle.std.specs.Prelude.{ℕ, ◌≡◌, ◌+◌, ◌<◌, ◌≤◌, ◌==◌, Bool, true, ◌&&◌, [], None, All}
use Rattle.board_prelude.specs.{One, MapChange, Store, Reset, pam, fdhc, reset_byte, Setup, IsCardList, largest_top}
use Rattle.board_prelude.specs.{Bytes, top_of, address_count, six_areas, list_all, list_any}
use Rattle.addr_decode.specs.Edges.{fixed_edges}
use Rattle.addr_decode.specs.Singles.{single_count}
use Rattle.map_builder.specs.declared.range.Changed.{Changed}
use Rattle.map_builder.specs.Changed.{after, changed_windows, bounds_or_zero, most_rows, IsOutside, pam_windows}
use Rattle.map_builder.specs.Changed.{single_windows}

-- an address outside the windows that a change may change has the same areas before and after. The last boundary
-- register is a byte, so that DRAM ends at most at 255 times 8 MiB
abbrev pub WindowsHoldChanges : Type 0
WindowsHoldChanges =
    (setup : Setup) (bytes : Bytes) (change : MapChange) (addr : ℕ) →
    IsCardList setup.cards → top_of bytes ≤ largest_top → addr < address_count →
    All (IsOutside addr) (changed_windows setup bytes change) →
    six_areas setup (after setup change bytes) addr ≡ six_areas setup bytes addr

-- and so has one outside their bounds
abbrev pub BoundsHoldChanges : Type 0
BoundsHoldChanges =
    (setup : Setup) (bytes : Bytes) (change : MapChange) (addr : ℕ) →
    IsCardList setup.cards → top_of bytes ≤ largest_top → addr < address_count →
    IsOutside addr (bounds_or_zero (changed_windows setup bytes change)) →
    six_areas setup (after setup change bytes) addr ≡ six_areas setup bytes addr

-- a window begins at an edge that no register moves, and ends below one
abbrev pub is_between_edges : Changed → Bool
is_between_edges window =
    list_any (λ edge. window.lo == edge) fixed_edges && list_any (λ edge. window.hi + 1 == edge) fixed_edges

-- each window does that PAM0 to PAM6 govern, and each that a register of one byte does
pub record WindowsEndAtEdges : Type 0 where
  pub pam : (number : ℕ) → number < 7 → is_between_edges (pam_windows number) ≡ true
  pub singles : (number : ℕ) → number < single_count → list_all is_between_edges (single_windows number) ≡ true

-- a board of 1 MiB without cards
abbrev pub plain_board : Setup
plain_board = record { mib = 1; cards = []; rom = []; disk = None }

-- after a reset a store to PAM0 looks up one row, one to FDHC two, one for each hole, and a hard reset no more than
-- one for each edge of the board and one for the first address
pub record RowsAreFew : Type 0 where
  pub pam : most_rows plain_board (reset_byte plain_board) (Store (pam 0) One 0x10) ≡ 1
  pub hole : most_rows plain_board (reset_byte plain_board) (Store fdhc One 0x80) ≡ 2
  pub reset : most_rows plain_board (reset_byte plain_board) Reset ≡ 30
