-- The edges of the memory map: the addresses at which the areas of an address may differ from those just below it.
use Rattle.std.specs.Prelude.{ℕ, ◌≡◌, ◌+◌, ◌*◌, ◌/◌, ◌^◌, ◌<◌, ◌≤◌, nat_lt, List, [], ◌∷◌, ◌++◌, length, map, filter}
use Rattle.std.specs.Prelude.{flat_map}
use Rattle.board_prelude.specs.{Contains, enumerate_from, FittedCard, Setup, IsCardList, Bytes, Window, boundary}
use Rattle.board_prelude.specs.{memory_window, rom_window, address_count, six_areas, smram_range, system_bios}
use Rattle.board_prelude.specs.{hole_at_512_kib, hole_at_15_mib, high_bios, lower_high_bios, extended_bios}

-- those that no register moves: the ends of the hole at 512 KiB, of SMRAM, of the shadow windows of 16 KiB from C0000h
-- on and of 64 KiB at F0000h, of the hole at 15 MiB, and of the ranges of the ROM below 4 GiB
unfoldable pub fixed_edges : List ℕ
fixed_edges =
    hole_at_512_kib.0 ∷ smram_range.0
    ∷ 0xC_0000 ∷ 0xC_4000 ∷ 0xC_8000 ∷ 0xC_C000
    ∷ 0xD_0000 ∷ 0xD_4000 ∷ 0xD_8000 ∷ 0xD_C000
    ∷ 0xE_0000 ∷ 0xE_4000 ∷ 0xE_8000 ∷ 0xE_C000
    ∷ system_bios.0 ∷ (system_bios.1 + 1)
    ∷ hole_at_15_mib.0 ∷ (hole_at_15_mib.1 + 1)
    ∷ extended_bios.0 ∷ lower_high_bios.0 ∷ high_bios.0
    ∷ []

-- the ends of the rows of DRAM
abbrev pub row_edges : Bytes → List ℕ
row_edges bytes = map (boundary bytes) (0 ∷ 1 ∷ 2 ∷ 3 ∷ 4 ∷ 5 ∷ 6 ∷ 7 ∷ [])

-- a window begins at the address inside it whose low bits are 0
abbrev pub first_address : Window → ℕ
first_address window = window.inside / 2 ^ window.bits * 2 ^ window.bits

-- the first address of a window, and the address after its last
abbrev pub window_edges : Window → List ℕ
window_edges window = first_address window ∷ (first_address window + 2 ^ window.bits) ∷ []

-- the edges of the memory bases of a card and of its expansion ROM, whether or not they are enabled
abbrev pub card_edges : Bytes → FittedCard → List ℕ
card_edges bytes card =
    flat_map (λ numbered. flat_map window_edges (memory_window bytes card.dev numbered.0 numbered.1))
    (enumerate_from 0 card.bases)
    ++ flat_map window_edges (rom_window bytes card)

-- all of them, in no order, and some perhaps twice
unfoldable pub edges_of : Setup → Bytes → List ℕ
edges_of setup bytes = fixed_edges ++ (row_edges bytes ++ flat_map (card_edges bytes) setup.cards)

-- an edge is one of these that is an address: a window may end after the last address
pub record IsEdge (setup : Setup) (bytes : Bytes) (edge : ℕ) : Type 0 where
  pub listed : Contains (edges_of setup bytes) edge
  pub address : edge < address_count

-- the least edge above an address
pub record IsNextEdge (setup : Setup) (bytes : Bytes) (addr edge : ℕ) : Type 0 where
  pub is_edge : IsEdge setup bytes edge
  pub above : addr < edge
  pub least : (other : ℕ) → IsEdge setup bytes other → addr < other → edge ≤ other

-- no edge lies above an address
abbrev pub NoEdgeAbove : Setup → Bytes → ℕ → Type 0
NoEdgeAbove setup bytes addr = (edge : ℕ) → IsEdge setup bytes edge → edge ≤ addr

-- every address from one on and below an end has the areas of the first
abbrev pub SameAreas : Setup → Bytes → (from end : ℕ) → Type 0
SameAreas setup bytes from end = (x : ℕ) → from ≤ x → x < end → six_areas setup bytes x ≡ six_areas setup bytes from

-- how many of the edges lie above an address
abbrev pub edges_after : Setup → Bytes → ℕ → ℕ
edges_after setup bytes addr = length (filter (nat_lt addr) (edges_of setup bytes))

-- ---- laws of the definitions, each proved on a function of `laws`

-- addresses have equal areas where no edge lies above the one and up to the other
abbrev pub AreasChangeAtEdges : Type 0
AreasChangeAtEdges =
    (setup : Setup) (bytes : Bytes) (addr x : ℕ) → addr ≤ x → x < address_count →
    ((edge : ℕ) → IsEdge setup bytes edge → addr < edge → x < edge) →
    six_areas setup bytes x ≡ six_areas setup bytes addr

-- a board has at most so many edges: 21 that are fixed, 8 of rows, and 2 of each of 6 bases and of the expansion ROM
-- of 8 cards
abbrev pub most_edges : ℕ
most_edges = 141

abbrev pub FewEdges : Type 0
FewEdges = (setup : Setup) (bytes : Bytes) → IsCardList setup.cards → length (edges_of setup bytes) ≤ most_edges
