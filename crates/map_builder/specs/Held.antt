-- The windows of cards as the code finds them, by what their base registers and that of the expansion ROM hold.
use Rattle.std.specs.Prelude.{ℕ, ◌+◌, ◌-◌, ◌*◌, ◌/◌, ◌^◌, List, [], ◌∷◌, ◌++◌, Option, Some, None, slice_get}
use Rattle.std.specs.Prelude.{slice_index, find, ◌==◌, Bool, if◌then◌else◌}
use Rattle.board_prelude.specs.{option_map_or, Base, MemoryBase, IoBase, OutsideBase, smram_range}
use Rattle.pci_bars.specs.Cards.{CardBytes}
use Rattle.map_builder.specs.declared.range.Changed.{Changed}
use Rattle.addr_decode.specs.declared.register.CardRegister.{CardRegister}
use Rattle.addr_decode.specs.declared.register.CardRegister.TheVariants.{Command, Base as BaseByte, ExpansionRom}
use Rattle.map_builder.specs.Changed.{from_to, whole}

-- the addresses that agree with one but in the low bits
abbrev pub block : (inside bits : ℕ) → Changed
block inside bits = from_to (inside / 2 ^ bits * 2 ^ bits) (inside / 2 ^ bits * 2 ^ bits + (2 ^ bits - 1))

-- those of a base that holds this value
abbrev pub held_by : Base → (value : ℕ) → List Changed
held_by (MemoryBase bits) value = block value bits ∷ []
held_by (IoBase bits) value = []
held_by (OutsideBase bits) value = block value bits ∷ []

-- those of bases, the first of them base number k, that hold these values
abbrev pub held_from : (values : List ℕ) → (k : ℕ) → List Base → List Changed
held_from values k [] = []
held_from values k (base ∷ later) = held_by base (slice_index values k) ++ held_from values (k + 1) later

-- those of base number k
abbrev pub held_at : (values : List ℕ) → List Base → (k : ℕ) → List Changed
held_at values bases k = option_map_or (λ base. held_by base (slice_index values k)) (slice_get bases k) []

-- an expansion ROM with this register
abbrev pub rom_held : Option ℕ → (register : ℕ) → List Changed
rom_held None register = []
rom_held (Some bits) register = block register bits ∷ []

-- the VGA window
abbrev pub vga_held : Bool → List Changed
vga_held vga = if vga then whole smram_range ∷ [] else []

-- those that a register of a card governs
abbrev pub card_held : CardRegister → CardBytes → List Changed
card_held Command card = held_from card.bases 0 card.card.bases ++ rom_held card.card.rom card.rom
    ++ vga_held card.card.vga
card_held (BaseByte k) card = held_at card.bases card.card.bases (k / 4)
card_held (ExpansionRom k) card = rom_held card.card.rom card.rom

-- those of a card found by its device number
abbrev pub device_held : (dev : ℕ) → CardRegister → List CardBytes → List Changed
device_held dev register cards = option_map_or (card_held register) (find (λ card. card.card.dev == dev) cards) []
