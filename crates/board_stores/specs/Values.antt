-- What reads give of the stores as they stand.
use Rattle.std.specs.Prelude.{ℕ, List, slice_index}
use Rattle.board_prelude.specs.{Width, Target, Dram, Shadow, Smram, Rom, Card, largest_of, wide}
use Rattle.dram_store.specs.Dram.{dram_at}
use Rattle.pci_bars.specs.Contents.{held_byte}
use Rattle.board_stores.specs.declared.stores.Stores.{Stores}

-- a read that has this target at an address or port. Nobody's reads give all ones
abbrev pub value_in : Stores → Target → (place : ℕ) → Width → ℕ
value_in stores (Dram row) place width = wide (dram_at stores.dram) place width
value_in stores (Shadow row) place width = wide (dram_at stores.dram) place width
value_in stores Smram place width = wide (dram_at stores.dram) place width
value_in stores (Card dev base off) place width = wide (held_byte stores.contents dev base) off width
value_in stores _ place width = largest_of width

-- the same beside the ROM of these bytes
abbrev pub value_with : Stores → (rom : List ℕ) → Target → (place : ℕ) → Width → ℕ
value_with stores rom (Rom off) place width = wide (slice_index rom) off width
value_with stores rom target place width = value_in stores target place width
