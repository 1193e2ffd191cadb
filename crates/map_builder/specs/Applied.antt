-- What a change makes of a map.
use Rattle.std.specs.Prelude.{ℕ, ◌≡◌, ◌<◌, true, false, if◌then◌else◌, List}
use Rattle.board_prelude.specs.{MapChange, Setup, Bytes, address_count, six_areas, IsFlatMapOf, touches_map}
use Rattle.pci_bars.specs.Cards.{AreCardsOf, cards_of}
use Rattle.addr_decode.specs.MapRegs.{StandsFor}
use Rattle.map_builder.specs.declared.range.Changed.{Changed}
use Rattle.map_builder.specs.Map.{Mapped, next_version}
use Rattle.map_builder.specs.Changed.{after, changed_windows, bounds_or_zero}
use Rattle.map_builder.specs.Build.{IsBeside}
use Rattle.map_builder.specs.Sorted.{Rise}

-- the windows that a change changed rise and lie apart, each address beside them keeps its areas, and they hold none
-- that is beside the windows which the change may change
pub record AreChanged (setup : Setup) (bytes : Bytes) (change : MapChange) (windows : List Changed) : Type 0 where
  pub rise : Rise windows
  pub beside : (addr : ℕ) → addr < address_count → IsBeside windows addr →
      six_areas setup (after setup change bytes) addr ≡ six_areas setup bytes addr
  pub within : (addr : ℕ) → IsBeside (changed_windows setup bytes change) addr → IsBeside windows addr

-- its registers become those after the change, its ranges are their map, its version is the next. It
-- keeps the windows that changed. What is told are the bounds of those that the change may change
pub record IsApplied (old new : Mapped) (change : MapChange) (result : Changed) : Type 0 where
  pub stands : (setup : Setup) (bytes : Bytes) → StandsFor setup bytes old.regs → StandsFor setup
      (after setup change bytes) new.regs
  pub cards : (setup : Setup) (bytes : Bytes) → AreCardsOf setup bytes old.regs.cards →
      AreCardsOf setup (after setup change bytes) new.regs.cards
  pub same_cards : cards_of new.regs.cards ≡ cards_of old.regs.cards
  pub version : new.version ≡ next_version old.version
  pub map : (setup : Setup) (bytes : Bytes) → StandsFor setup bytes new.regs → IsFlatMapOf setup bytes new.ranges
  pub changed : (setup : Setup) (bytes : Bytes) → StandsFor setup bytes old.regs →
      result ≡ bounds_or_zero (changed_windows setup bytes change)
  pub windows : (setup : Setup) (bytes : Bytes) → StandsFor setup bytes old.regs → AreChanged setup bytes change
      new.changed

-- a store is a change where it covers a byte that the map depends on. Else it leaves the ranges, the version and the
-- windows that changed
pub record IsStored (old new : Mapped) (store : MapChange) : Type 0 where
  pub stands : (setup : Setup) (bytes : Bytes) → StandsFor setup bytes old.regs → StandsFor setup
      (after setup store bytes) new.regs
  pub cards : (setup : Setup) (bytes : Bytes) → AreCardsOf setup bytes old.regs.cards →
      AreCardsOf setup (after setup store bytes) new.regs.cards
  pub same_cards : cards_of new.regs.cards ≡ cards_of old.regs.cards
  pub version : (setup : Setup) → setup.cards ≡ cards_of old.regs.cards →
      new.version ≡ (if touches_map setup store then next_version old.version else old.version)
  pub windows : (setup : Setup) (bytes : Bytes) → StandsFor setup bytes old.regs → touches_map setup store ≡ true →
      AreChanged setup bytes store new.changed
  pub same_windows : (setup : Setup) → setup.cards ≡ cards_of old.regs.cards → touches_map setup store ≡ false →
      new.changed ≡ old.changed
  pub map : (setup : Setup) (bytes : Bytes) → StandsFor setup bytes new.regs → IsFlatMapOf setup bytes new.ranges
