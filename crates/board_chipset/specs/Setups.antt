-- The first field of a setup that no board can have, in the order in which they stand here.
use Rattle.std.specs.Prelude.{ℕ, ◌≡◌, ◌≤◌, ◌<◌, List, [], ◌∷◌, length, Option, option_map}
use Rattle.board_prelude.specs.{most_mib, most_card_memory, FittedCard, Setup, IsCard, IsCardList, IsRomSize, IsDisk}
use Rattle.board_prelude.specs.{memory_of_cards}
use Rattle.board_chipset.specs.declared.check.SetupFault.{SetupFault}
use Rattle.board_chipset.specs.declared.check.SetupFault.TheVariants.{Memory, Cards, Windows, Rom, Disk, NoMemory}

-- 1 to 512 MiB are installed
abbrev pub IsMemory : ℕ → Type 0
IsMemory mib = (1 ≤ mib) × (mib ≤ most_mib)

-- cards in range, each with a device number above that of the card before
unfoldable pub RiseFrom : (above : ℕ) → List FittedCard → Type 0
RiseFrom above [] = Unit {0}
RiseFrom above (card ∷ later) = (above < card.dev) × IsCard card × RiseFrom card.dev later

abbrev pub AreWindows : Setup → Type 0
AreWindows setup = memory_of_cards setup.cards ≤ most_card_memory

abbrev pub IsSetupFault : Setup → SetupFault → Type 0
IsSetupFault setup Memory = ¬ IsMemory setup.mib
IsSetupFault setup Cards = IsMemory setup.mib × ¬ IsCardList setup.cards
IsSetupFault setup Windows = IsMemory setup.mib × IsCardList setup.cards × ¬ AreWindows setup
IsSetupFault setup Rom =
    IsMemory setup.mib × IsCardList setup.cards × AreWindows setup × ¬ IsRomSize (length setup.rom)
IsSetupFault setup Disk =
    IsMemory setup.mib × IsCardList setup.cards × AreWindows setup × IsRomSize (length setup.rom) × ¬ IsDisk setup.disk
IsSetupFault setup NoMemory = ⊥

-- a setup with these cards, and a ROM and a disk of these lengths
pub record HasSizes (setup : Setup) (mib : ℕ) (cards : List FittedCard) (rom : ℕ) (disk : Option ℕ) : Type 0 where
  pub mib_is : setup.mib ≡ mib
  pub cards_are : setup.cards ≡ cards
  pub rom_is : length setup.rom ≡ rom
  pub disk_is : disk ≡ option_map (λ bytes. length bytes) setup.disk
