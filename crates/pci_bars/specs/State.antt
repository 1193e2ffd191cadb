-- The bytes behind the bases of the cards as bytes: those of each base in turn, as memory.
use Rattle.std.specs.Prelude.{ℕ, zero, suc, ◌≡◌, ◌+◌, ◌==◌, List, [], ◌∷◌, length, find, flat_map}
use Rattle.board_prelude.specs.{FittedCard, kept_size}
use Rattle.byte_fields.specs.Fields.{Reading, gives, ◌>>=◌}
use Rattle.byte_fields.specs.Pages.{memory_bytes, memory_fields}
use Rattle.pci_bars.specs.Contents.{IsBaseNumber, held, slot_size}

-- the contents of these cards: of each base of each device number as many bytes as are kept of it
pub record AreContents (cards : List FittedCard) (contents : List (List ℕ)) : Type 0 where
  pub count : length contents ≡ 64
  pub sizes : (dev base : ℕ) → IsBaseNumber dev base →
      length (held contents dev base) ≡ kept_size (find (λ card. card.dev == dev) cards) base

abbrev pub contents_bytes : List (List ℕ) → List ℕ
contents_bytes contents = flat_map memory_bytes contents

-- so many bases, from one on
unfoldable pub slots_fields : List FittedCard → (slot count : ℕ) → Reading (List (List ℕ))
slots_fields cards slot zero = gives []
slots_fields cards slot (suc count) = do
  bytes ← memory_fields (slot_size cards slot)
  later ← slots_fields cards (slot + 1) count
  gives (bytes ∷ later)

abbrev pub contents_fields : List FittedCard → Reading (List (List ℕ))
contents_fields cards = slots_fields cards 0 64
