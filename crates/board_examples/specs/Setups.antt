-- What a board can be fitted with, at the borders: the last that is good on each side, and the first that is bad. The
-- numbers are those of the README and of the formats, and stand here once more on purpose.
use Rattle.std.specs.Prelude.{ℕ, ◌≡◌, true, false, List, [], ◌∷◌, ◌++◌, map, replicate, Some, None}
use Rattle.board_prelude.specs.{Base, MemoryBase, IoBase, OutsideBase, FittedCard, IsBase, IsCard, IsCardList}
use Rattle.board_prelude.specs.{IsDiskSize, IsExpansionRom, IsRomSize, IsSetup, is_base_in_range, is_rom_in_range}
use Rattle.board_prelude.specs.{is_rom_size, entry_limit, most_phases, most_pulses, most_statements}
use Rattle.board_examples.specs.Basics.{board_of}

-- a board of so many MiB with these cards
abbrev pub Fits : ℕ → List FittedCard → Type 0
Fits mib cards = IsSetup (board_of mib cards)

-- a card at a device number with these bases
abbrev pub card_with : ℕ → List Base → FittedCard
card_with dev bases = record { dev = dev; vga = false; bases = bases; rom = None }

-- 1 to 512 MiB
pub record MemoryBorders : Type 0 where
  pub least : Fits 1 []
  pub none : ¬ Fits 0 []
  pub most : Fits 512 []
  pub more : ¬ Fits 513 []

-- a ROM of 64, 128, 256 or 512 KiB
pub record RomBorders : Type 0 where
  pub sizes : IsRomSize 65_536 × IsRomSize 131_072 × IsRomSize 262_144 × IsRomSize 524_288
  pub half : ¬ IsRomSize 32_768
  pub short : ¬ IsRomSize 65_535
  pub long : ¬ IsRomSize 65_537
  pub between : ¬ IsRomSize 196_608
  pub last : ¬ IsRomSize 524_289
  pub twice : ¬ IsRomSize 1_048_576
  pub read :
      map is_rom_size
      (32_768 ∷ 65_535 ∷ 65_536 ∷ 65_537 ∷ 131_072 ∷ 196_608 ∷ 262_144 ∷ 524_288 ∷ 524_289 ∷ 1_048_576 ∷ [])
      ≡ false ∷ false ∷ true ∷ false ∷ true ∷ false ∷ true ∷ true ∷ false ∷ false ∷ []

-- a disk of 1 to 65,536 sectors of 512 bytes
pub record DiskBorders : Type 0 where
  pub one : IsDiskSize 512
  pub none : ¬ IsDiskSize 0
  pub less : ¬ IsDiskSize 511
  pub part : ¬ IsDiskSize 513
  pub most : IsDiskSize 33_554_432
  pub more : ¬ IsDiskSize 33_554_944

-- memory bases of 16 bytes to 16 MiB, and to 256 MiB outside the board, I/O bases of 4 to 256 ports, expansion ROMs of
-- 2 KiB to 16 MiB
pub record BaseBorders : Type 0 where
  pub memory : IsBase (MemoryBase 4) × IsBase (MemoryBase 24)
  pub little_memory : ¬ IsBase (MemoryBase 3)
  pub much_memory : ¬ IsBase (MemoryBase 25)
  pub outside : IsBase (OutsideBase 4) × IsBase (OutsideBase 28)
  pub little_outside : ¬ IsBase (OutsideBase 3)
  pub much_outside : ¬ IsBase (OutsideBase 29)
  pub ports : IsBase (IoBase 2) × IsBase (IoBase 8)
  pub few_ports : ¬ IsBase (IoBase 1)
  pub many_ports : ¬ IsBase (IoBase 9)
  pub roms : IsExpansionRom None × IsExpansionRom (Some 11) × IsExpansionRom (Some 24)
  pub small_rom : ¬ IsExpansionRom (Some 10)
  pub large_rom : ¬ IsExpansionRom (Some 25)
  pub bases_read :
      map is_base_in_range
      (MemoryBase 3 ∷ MemoryBase 4 ∷ MemoryBase 24 ∷ MemoryBase 25 ∷ IoBase 1 ∷ IoBase 2 ∷ IoBase 8 ∷ IoBase 9 ∷ [])
      ≡ false ∷ true ∷ true ∷ false ∷ false ∷ true ∷ true ∷ false ∷ []
  pub outside_read : map is_base_in_range (OutsideBase 3 ∷ OutsideBase 4 ∷ OutsideBase 28 ∷ OutsideBase 29 ∷ [])
      ≡ false ∷ true ∷ true ∷ false ∷ []
  pub roms_read : map is_rom_in_range (None ∷ Some 10 ∷ Some 11 ∷ Some 24 ∷ Some 25 ∷ [])
      ≡ true ∷ false ∷ true ∷ true ∷ false ∷ []

-- devices 2 to 9, each with at most six bases
pub record CardBorders : Type 0 where
  pub first : IsCard (card_with 2 [])
  pub before : ¬ IsCard (card_with 1 [])
  pub last : IsCard (card_with 9 (replicate 6 (IoBase 2)))
  pub past : ¬ IsCard (card_with 10 [])
  pub bases : ¬ IsCard (card_with 9 (replicate 7 (IoBase 2)))
  pub base : ¬ IsCard (card_with 9 (IoBase 9 ∷ []))
  pub rom : ¬ IsCard (record (card_with 9 []) { rom = Some 10 })

-- a card at each device number
abbrev pub eight_cards : List FittedCard
eight_cards = map (λ dev. card_with dev []) (2 ∷ 3 ∷ 4 ∷ 5 ∷ 6 ∷ 7 ∷ 8 ∷ 9 ∷ [])

-- eight cards, in rising order
pub record CardListBorders : Type 0 where
  pub all : IsCardList eight_cards
  pub nine : ¬ IsCardList (eight_cards ++ card_with 10 [] ∷ [])
  pub twice : ¬ IsCardList (card_with 3 [] ∷ card_with 3 [] ∷ [])
  pub falling : ¬ IsCardList (card_with 3 [] ∷ card_with 2 [] ∷ [])

-- 64 MiB behind the memory bases of two cards, beside which ports and 256 MiB outside do not count, and 16 bytes more
abbrev pub full_cards : List FittedCard
full_cards =
    card_with 2 (replicate 3 (MemoryBase 24)) ∷ card_with 3 (MemoryBase 24 ∷ IoBase 8 ∷ OutsideBase 28 ∷ []) ∷ []

abbrev pub more_cards : List FittedCard
more_cards = card_with 2 (replicate 3 (MemoryBase 24)) ∷ card_with 3 (MemoryBase 24 ∷ MemoryBase 4 ∷ []) ∷ []

pub record WindowBorders : Type 0 where
  pub most : Fits 8 full_cards
  pub more : ¬ Fits 8 more_cards

-- what a script may ask for, and what a board keeps
pub record Amounts : Type 0 where
  pub statements : most_statements ≡ 250_000
  pub phases : most_phases ≡ 1_000
  pub pulses : most_pulses ≡ 100_000_000
  pub entries : entry_limit ≡ 4_000_000

pub record SetupBorders : Type 0 where
  pub memory : MemoryBorders
  pub rom : RomBorders
  pub disk : DiskBorders
  pub base : BaseBorders
  pub card : CardBorders
  pub cards : CardListBorders
  pub windows : WindowBorders
  pub amounts : Amounts
