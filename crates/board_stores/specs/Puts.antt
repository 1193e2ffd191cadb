-- Bytes put into the DRAM and behind the bases of the cards.
use Rattle.std.specs.Prelude.{ℕ, ◌≡◌, ◌<◌, List, length, slice_index, Option, unwrap_or}
use Rattle.board_prelude.specs.{Entry, Setup, Cell, DramCell, CardCell}
use Rattle.dram_store.specs.Dram.{IsDramOf}
use Rattle.pci_bars.specs.Contents.{IsBaseNumber, held, held_byte, IsContentsOf}
use Rattle.board_stores.specs.declared.stores.Stores.{Stores}

-- the bytes of the DRAM and behind the bases of the cards after a history
pub record HasStores (setup : Setup) (history : List Entry) (stores : Stores) : Type 0 where
  pub dram : IsDramOf setup history stores.dram
  pub contents : IsContentsOf setup history stores.contents

-- before and after bytes were put: each cell that is kept has the byte that was put there, or its own
pub record ArePut (put : Cell → Option ℕ) (old new : Stores) : Type 0 where
  pub size : length new.dram ≡ length old.dram
  pub dram : (at : ℕ) → at < length old.dram →
      slice_index new.dram at ≡ unwrap_or (put (DramCell at)) (slice_index old.dram at)
  pub sizes : (dev base : ℕ) → length (held new.contents dev base) ≡ length (held old.contents dev base)
  pub contents : (dev base off : ℕ) → IsBaseNumber dev base → off < length (held old.contents dev base) →
      held_byte new.contents dev base off
      ≡ unwrap_or (put (CardCell dev base off)) (held_byte old.contents dev base off)
