-- What a board is fitted with. Every definition here is for one fixed setup.
use Rattle.std.specs.Prelude.{ℕ, ◌≡◌, ◌<◌, ◌≤◌, ◌==◌, ◌*◌, ◌^◌, ◌⊎◌, Bool, true, ◌||◌, if◌then◌else◌, List, [], ◌∷◌}
use Rattle.std.specs.Prelude.{length, All, sum_by, flat_map, Option, Some, None, find, slice_get}
use Rattle.std.specs.Option.{option_map_or}
use Rattle.board_base.specs.Bits.{is_within}
use Rattle.board_spec.specs.Limits.{most_mib, most_card_memory}

-- a base address register of a card, for memory or for I/O ports, of 2 ^ bits bytes
-- (PCI Local Bus 2.1, section 6.2.5.1). The bytes of an outside base, which is for memory too, are kept by the model of
-- its card, outside the board
pub data Base : Type 0 where
  MemoryBase : (bits : ℕ) → Base
  IoBase : (bits : ℕ) → Base
  OutsideBase : (bits : ℕ) → Base

-- the numbers of what a card decodes: 0 to 5 for its base address registers, then its expansion ROM, and then
-- the window of a VGA adapter, A0000h to BFFFFh, of 2 ^ vga_bits bytes
abbrev pub rom_base : ℕ
rom_base = 6

abbrev pub vga_base : ℕ
vga_base = 7

abbrev pub vga_bits : ℕ
vga_bits = 17

-- a PCI card: its device number, whether it is a VGA adapter, its bases from offset 10h on, and its
-- expansion ROM of 2 ^ rom bytes where it has one (PCI Local Bus 2.1, section 6.2.5.2)
pub record FittedCard : Type 0 where
  pub dev : ℕ
  pub vga : Bool
  pub bases : List Base
  pub rom : Option ℕ

-- the installed memory in MiB, the cards in rising order of device, the bytes of the BIOS ROM, and
-- those of the disk where one is fitted
pub record Setup : Type 0 where
  pub mib : ℕ
  pub cards : List FittedCard
  pub rom : List ℕ
  pub disk : Option (List ℕ)

-- how many bytes of DRAM are installed
abbrev pub installed : Setup → ℕ
installed setup = setup.mib * 0x100000

-- the card at a device number
abbrev pub card_at : Setup → ℕ → Option FittedCard
card_at setup dev = find (λ card. card.dev == dev) setup.cards

-- ---- what a board can be fitted with

-- a memory base has 16 bytes to 16 MiB, an I/O base 4 to 256 ports, and an outside base 16 bytes to 256 MiB
abbrev pub IsBase : Base → Type 0
IsBase (MemoryBase bits) = (4 ≤ bits) × (bits ≤ 24)
IsBase (IoBase bits) = (2 ≤ bits) × (bits ≤ 8)
IsBase (OutsideBase bits) = (4 ≤ bits) × (bits ≤ 28)

-- an expansion ROM has 2 KiB to 16 MiB
abbrev pub IsExpansionRom : Option ℕ → Type 0
IsExpansionRom None = Unit {0}
IsExpansionRom (Some bits) = (11 ≤ bits) × (bits ≤ 24)

-- the same asked of numbers that are read
abbrev pub is_base_in_range : Base → Bool
is_base_in_range (MemoryBase bits) = is_within 4 24 bits
is_base_in_range (IoBase bits) = is_within 2 8 bits
is_base_in_range (OutsideBase bits) = is_within 4 28 bits

abbrev pub is_rom_in_range : Option ℕ → Bool
is_rom_in_range None = true
is_rom_in_range (Some bits) = is_within 11 24 bits

pub record IsCard (card : FittedCard) : Type 0 where
  pub first : 2 ≤ card.dev
  pub last : card.dev ≤ 9
  pub count : length card.bases ≤ 6
  pub each : All IsBase card.bases
  pub rom : IsExpansionRom card.rom

-- the devices rise
abbrev pub Rises : List FittedCard → Type 0
Rises [] = Unit {0}
Rises (card ∷ later) = All (λ other. card.dev < other.dev) later × Rises later

pub record IsCardList (cards : List FittedCard) : Type 0 where
  pub count : length cards ≤ 8
  pub each : All IsCard cards
  pub rises : Rises cards

-- the bytes of memory that the board keeps for a base
abbrev pub memory_size : Base → ℕ
memory_size (MemoryBase bits) = 2 ^ bits
memory_size (IoBase bits) = 0
memory_size (OutsideBase bits) = 0

abbrev pub memory_of_cards : List FittedCard → ℕ
memory_of_cards cards = sum_by memory_size (flat_map (λ card. card.bases) cards)

-- ---- the bytes that the board keeps of a card

-- of a base: one for each address or port that it decodes, but none of an outside base
abbrev pub kept_of_base : Base → ℕ
kept_of_base (MemoryBase bits) = 2 ^ bits
kept_of_base (IoBase bits) = 2 ^ bits
kept_of_base (OutsideBase bits) = 0

-- of a base by its number: those of the VGA window too, and none of an expansion ROM, whose bytes are fixed. There are
-- none where the base does not exist
abbrev pub kept_size : Option FittedCard → ℕ → ℕ
kept_size None base = 0
kept_size (Some card) base =
    if base == vga_base then (if card.vga then 2 ^ vga_bits else 0)
    else option_map_or kept_of_base (slice_get card.bases base) 0

-- ---- the ROM and the disk

-- a ROM of 64, 128, 256 or 512 KiB
abbrev pub IsRomSize : ℕ → Type 0
IsRomSize size = (size ≡ 0x1_0000) ⊎ (size ≡ 0x2_0000) ⊎ (size ≡ 0x4_0000) ⊎ (size ≡ 0x8_0000)

-- the same asked of numbers that are read (`is_disk_length` asks so of a disk)
abbrev pub is_rom_size : ℕ → Bool
is_rom_size size = size == 0x1_0000 || size == 0x2_0000 || size == 0x4_0000 || size == 0x8_0000

-- a disk of 1 to 65,536 whole sectors of 512 bytes
abbrev pub IsDiskSize : ℕ → Type 0
IsDiskSize size = (sectors : ℕ) × (1 ≤ sectors) × (sectors ≤ 0x1_0000) × (size ≡ sectors * 512)

abbrev pub IsDisk : Option (List ℕ) → Type 0
IsDisk None = Unit {0}
IsDisk (Some sectors) = IsDiskSize (length sectors)

pub record IsSetup (setup : Setup) : Type 0 where
  pub some_memory : 1 ≤ setup.mib
  pub most_memory : setup.mib ≤ most_mib
  pub cards : IsCardList setup.cards
  pub windows : memory_of_cards setup.cards ≤ most_card_memory
  pub rom : IsRomSize (length setup.rom)
  pub disk : IsDisk setup.disk
