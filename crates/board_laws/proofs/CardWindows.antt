-- A card that answers has a window of 4 bytes or more, and all bytes of an aligned access lie in one area.
use Rattle.board_prelude.proofs.{nat_tests, All-nil, All-head, All-tail, All-append, enumerate_from, Base, IoBase}
use Rattle.board_prelude.proofs.{Setup, IsCard, IsCardList, FittedCard, IsExpansionRom, window_bits, Bytes, Window}
use Rattle.board_prelude.proofs.{memory_window, rom_window, rom_window_of, memory_claim, Kind, area_of, Width, bytes_of}
use Rattle.board_prelude.proofs.{IsBase, boundary, address_count, base_value, rom_value, bits_of_base}
use Rattle.std.proofs.Common.{◌≡◌, ℕ, ◌+◌, ◌<◌, ◌≤◌, Bool, List, [], ◌∷◌, Option, Some, None, arith, All, flat_map}
use Rattle.std.proofs.Common.{◌++◌, ◌%◌, subst}
use Rattle.board_base.specs.declared.target.Area.TheVariants.{Card as CardArea}
use Rattle.board_chipset.proofs.HeldTargets.{IsClaim, claim_line}
use Rattle.pci_bars.specs.Contents.{IsBaseNumber}
use Rattle.pci_bars.proofs.WindowLemmas.{claim_sized, least_bits, quarter}
use Rattle.addr_decode.proofs.CardLemmas.{found_cards}
use Rattle.std.proofs.lemmas.List.Elements.{All-contains, All-from_recursion, All-map}
use Rattle.std.proofs.Math.Nat.{mul_assoc}
use Rattle.addr_decode.specs.Edges.{fixed_edges, row_edges, window_edges, card_edges, edges_of}
use Rattle.addr_decode.proofs.EdgeLaws.{areas_change_at_edges}

-- a card with this number has a base with that one, which has 4 bytes or more
pub record IsWindow (setup : Setup) (dev base : ℕ) : Type 0 where
  pub number : IsBaseNumber dev base
  pub least : 2 ≤ window_bits setup dev base

-- the area of a card is that of a window
pub card_window : (setup : Setup) (bytes : Bytes) (addr : ℕ) (kind : Kind) (smm : Bool) (dev base : ℕ) →
    IsCardList setup.cards → area_of setup bytes addr kind smm ≡ CardArea dev base → IsWindow setup dev base
unfolding area_of
card_window setup bytes addr kind smm dev base list is =
    let claim : IsClaim (memory_claim setup bytes addr) dev base = claim_line _ _ _ _ _ _ _ _ is in
    let sized = claim_sized setup bytes addr claim.0 (found_cards setup list) claim.1 in
    subst (λ (n : ℕ). IsWindow setup dev n) claim.3 (subst (λ (n : ℕ). IsWindow setup n claim.0.base) claim.2
    (record { number = sized.number; least = rw (← sized.bits) sized.least }))

-- ---- edges

abbrev IsEven : ℕ → Type 0
IsEven edge = edge % 4 ≡ 0

window_even : (window : Window) → 2 ≤ window.bits → All IsEven (window_edges window)
window_even window above = grind (arith, nat_tests, quarter, mul_assoc)

each_even : {X : Type 0} (P : X → Type 0) (f : X → List ℕ) (xs : List X) → ((x : X) → P x → All IsEven (f x)) →
    All P xs → All IsEven (flat_map f xs)
each_even P f [] even each = All-nil IsEven
each_even P f (x ∷ later) even each =
    All-append IsEven (f x) (flat_map f later) (even x (All-head P x later each))
    (each_even P f later even (All-tail P x later each))

module _ (bytes : Bytes) where
  base_even : (dev k : ℕ) (base : Base) → IsBase base →
      All IsEven (flat_map window_edges (memory_window bytes dev k base))
  base_even dev k (IoBase bits) fit = All-nil IsEven
  base_even dev k base fit =
      window_even (record { dev = dev; base = k; inside = base_value bytes dev k; bits = bits_of_base (Some base) })
      (least_bits base fit)

  bases_even : (dev k : ℕ) (bases : List Base) → All IsBase bases → All IsEven
      (flat_map (λ numbered. flat_map window_edges (memory_window bytes dev numbered.0 numbered.1))
      (enumerate_from k bases))
  bases_even dev k [] fit = All-nil IsEven
  bases_even dev k (base ∷ later) fit =
      All-append IsEven (flat_map window_edges (memory_window bytes dev k base)) _
      (base_even dev k base (All-head IsBase base later fit))
      (bases_even dev (k + 1) later (All-tail IsBase base later fit))

  rom_even : (dev : ℕ) (rom : Option ℕ) → IsExpansionRom rom →
      All IsEven (flat_map window_edges (rom_window_of bytes dev rom))
  rom_even dev None fit = All-nil IsEven
  rom_even dev (Some bits) fit =
      window_even (record { dev = dev; base = 6; inside = rom_value bytes dev; bits = bits }) (omega (arith, fit.0))

  abbrev bases_edges : FittedCard → List ℕ
  bases_edges card =
      flat_map (λ numbered. flat_map window_edges (memory_window bytes card.dev numbered.0 numbered.1))
      (enumerate_from 0 card.bases)

  edges_even : (setup : Setup) → All IsCard setup.cards → All IsEven (edges_of setup bytes)
  unfolding edges_of fixed_edges
  edges_even setup fit =
      let all : List ℕ = flat_map (card_edges bytes) setup.cards in
      All-append IsEven fixed_edges (row_edges bytes ++ all) (All-from_recursion IsEven fixed_edges (omega arith))
      (All-append IsEven (row_edges bytes) all
      (All-map IsEven (boundary bytes) (0 ∷ 1 ∷ 2 ∷ 3 ∷ 4 ∷ 5 ∷ 6 ∷ 7 ∷ []) (λ k d within. omega arith))
      (each_even IsCard (card_edges bytes) setup.cards (λ card one.
      All-append IsEven (bases_edges card) (flat_map window_edges (rom_window bytes card)) (bases_even card.dev 0
      card.bases one.each) (rom_even card.dev card.rom one.rom)) fit))

-- the bytes of an aligned access lie in one area: no edge, which is a multiple of 4, lies inside it
pub same_area : (setup : Setup) (bytes : Bytes) (addr i : ℕ) (width : Width) (kind : Kind) (smm : Bool) →
    All IsCard setup.cards → addr % bytes_of width ≡ 0 → i < bytes_of width → addr + i < address_count →
    area_of setup bytes (addr + i) kind smm ≡ area_of setup bytes addr kind smm
same_area setup bytes addr i width kind smm fit aligned within last =
    let same = areas_change_at_edges setup bytes addr (addr + i) (omega arith) last (λ edge is above.
    let even = All-contains IsEven (edges_of setup bytes) edge (edges_even bytes setup fit) is.listed in
    grind (arith, even)) in
    grind (arith, nat_tests, same)
