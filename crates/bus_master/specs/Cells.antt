-- The bytes behind the addresses, read and written by target, whatever keeps them.
use Rattle.std.specs.Prelude.{ℕ, Bool, nat_lt, if◌then◌else◌, slice_index, unwrap_or}
use Rattle.board_prelude.specs.{Width, Target, Dram, Shadow, Smram, Rom, Card, largest_of, Setup, card_at, installed}
use Rattle.board_prelude.specs.{kept_size, wide, Cell, DramCell, CardCell, byte_put}

-- what each byte of the DRAM and of the cards reads
abbrev pub Cells : Type 0
Cells = Cell → ℕ

-- what a read of memory gives that has this target. Nobody's reads give all ones
abbrev pub value_in : Setup → Cells → Target → (addr : ℕ) → Width → ℕ
value_in setup cells (Dram row) addr width = wide (λ at. cells (DramCell at)) addr width
value_in setup cells (Shadow row) addr width = wide (λ at. cells (DramCell at)) addr width
value_in setup cells Smram addr width = wide (λ at. cells (DramCell at)) addr width
value_in setup cells (Rom off) addr width = wide (slice_index setup.rom) off width
value_in setup cells (Card dev base off) addr width = wide (λ at. cells (CardCell dev base at)) off width
value_in setup cells _ addr width = largest_of width

-- DRAM past the installed memory keeps nothing, and so does an outside base of a card
abbrev pub is_kept : Setup → Cell → Bool
is_kept setup (DramCell addr) = nat_lt addr (installed setup)
is_kept setup (CardCell dev base off) = nat_lt off (kept_size (card_at setup dev) base)

-- what they read after a write that has this target
abbrev pub put_in : Setup → Target → (addr : ℕ) → Width → (value : ℕ) → Cells → Cells
put_in setup target addr width value cells cell =
    if is_kept setup cell then unwrap_or (byte_put target addr width value cell) (cells cell) else cells cell
