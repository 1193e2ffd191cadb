-- The base address registers of a card by their numbers.
use Rattle.std.specs.Prelude.{ℕ, ◌^◌, ◌==◌, if◌then◌else◌, List, Option, slice_get}
use Rattle.board_prelude.specs.{option_map_or, Base, MemoryBase, IoBase, OutsideBase, FittedCard, rom_base, vga_base}
use Rattle.board_prelude.specs.{vga_bits, bits_of_base, base_of_card, rom_bits}
use Rattle.pci_bars.specs.declared.spec.BaseSpec.{BaseSpec}
use Rattle.pci_bars.specs.declared.spec.BaseSpec.TheVariants.{Memory, Io, Outside}

abbrev pub base_of : BaseSpec → Base
base_of (Memory bits) = MemoryBase bits
base_of (Io bits) = IoBase bits
base_of (Outside bits) = OutsideBase bits

-- how many addresses or ports a base decodes
abbrev pub base_size : Base → ℕ
base_size (MemoryBase bits) = 2 ^ bits
base_size (IoBase bits) = 2 ^ bits
base_size (OutsideBase bits) = 2 ^ bits

-- a number that each base has, and 0 where there is no base of this number
abbrev pub of_base : (Base → ℕ) → List Base → ℕ → ℕ
of_base number_of bases k = option_map_or number_of (slice_get bases k) 0

-- how many low bits of an address lie within a base of a card, as `window_bits` says it of a setup's
abbrev pub bits_in : Option FittedCard → ℕ → ℕ
bits_in card base =
    if base == vga_base then vga_bits else
    if base == rom_base then rom_bits card else bits_of_base (base_of_card card base)
