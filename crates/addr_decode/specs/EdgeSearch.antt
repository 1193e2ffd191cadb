-- The next edge as the code looks for it: it keeps the least edge above an address.
use Rattle.std.specs.Prelude.{ℕ, ◌+◌, ◌*◌, ◌/◌, ◌^◌, nat_lt, min, ◌&&◌, if◌then◌else◌, List, [], ◌∷◌, ◌++◌, Option}
use Rattle.std.specs.Prelude.{Some, None, unwrap_or, slice_index}
use Rattle.std.specs.List.{fold}
use Rattle.board_prelude.specs.{Base, MemoryBase, IoBase, OutsideBase, address_count}
use Rattle.pci_bars.specs.Cards.{CardBytes}

-- the least edge so far, after one more
abbrev pub nearer : (addr : ℕ) → Option ℕ → ℕ → Option ℕ
nearer addr best edge =
    if nat_lt addr edge && nat_lt edge address_count then Some (min (unwrap_or best edge) edge) else best

-- the least edge so far, after a list of them
unfoldable pub nearest : (addr : ℕ) → Option ℕ → List ℕ → Option ℕ
nearest addr best edges = fold (nearer addr) best edges

-- the edges of a base that holds this value
abbrev pub ends_of : Base → (value : ℕ) → List ℕ
ends_of (MemoryBase bits) value = value / 2 ^ bits * 2 ^ bits ∷ (value / 2 ^ bits * 2 ^ bits + 2 ^ bits) ∷ []
ends_of (IoBase bits) value = []
ends_of (OutsideBase bits) value = value / 2 ^ bits * 2 ^ bits ∷ (value / 2 ^ bits * 2 ^ bits + 2 ^ bits) ∷ []

-- the edges of bases, the first of them base number k, with these values
abbrev pub ends_from : (values : List ℕ) → (k : ℕ) → List Base → List ℕ
ends_from values k [] = []
ends_from values k (base ∷ later) = ends_of base (slice_index values k) ++ ends_from values (k + 1) later

-- the edges of an expansion ROM with this register
abbrev pub ends_of_rom : Option ℕ → (register : ℕ) → List ℕ
ends_of_rom None register = []
ends_of_rom (Some bits) register = ends_of (MemoryBase bits) register

abbrev pub ends_of_card : CardBytes → List ℕ
ends_of_card card = ends_from card.bases 0 card.card.bases ++ ends_of_rom card.card.rom card.rom
