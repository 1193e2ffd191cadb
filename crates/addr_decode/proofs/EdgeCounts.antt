-- How many edges a board has, and how many of them lie above an address.
use Rattle.std.proofs.Common.{ℕ, ◌+◌, ◌*◌, ◌<◌, ◌≤◌, List, [], ◌∷◌, length, Option, Some, None, arith, nat_lt, All}
use Rattle.std.proofs.Common.{filter, flat_map, IfSome, not, refl}
use Rattle.std.proofs.lemmas.List.Filters.{length-filter_both}
use Rattle.board_prelude.proofs.{Contains, enumerate_from, nat_tests, length-append, All-head, All-tail, Base}
use Rattle.board_prelude.proofs.{FittedCard, Setup, IsCard, IsCardList, Bytes, memory_window, rom_window, rom_window_of}
use Rattle.addr_decode.specs.Edges.{fixed_edges, window_edges, card_edges, edges_of, edges_after, IsNextEdge}
use Rattle.addr_decode.specs.Edges.{most_edges, FewEdges}
use Rattle.addr_decode.proofs.EdgeSearchLemmas.{contains_cases}

few_of_bases :
    (bytes : Bytes) (dev k : ℕ) (bases : List Base) →
    length
    (flat_map (λ numbered. flat_map window_edges (memory_window bytes dev numbered.0 numbered.1))
    (enumerate_from k bases)) ≤ 2 * length bases
few_of_bases bytes dev k [] = omega arith
few_of_bases bytes dev k (base ∷ later) = let rest = few_of_bases bytes dev (k + 1) later in grind arith

few_of_rom :
    (bytes : Bytes) (dev : ℕ) (rom : Option ℕ) → length (flat_map window_edges (rom_window_of bytes dev rom)) ≤ 2
few_of_rom bytes dev rom = grind arith

few_of_cards : (bytes : Bytes) (cards : List FittedCard) → All IsCard cards →
    length (flat_map (card_edges bytes) cards) ≤ 14 * length cards
few_of_cards bytes [] each = omega arith
few_of_cards bytes (card ∷ later) each =
    omega (
      arith,
      length-append (card_edges bytes card) (flat_map (card_edges bytes) later),
      length-append (flat_map (λ numbered. flat_map window_edges (memory_window bytes card.dev numbered.0 numbered.1))
          (enumerate_from 0 card.bases)) (flat_map window_edges (rom_window bytes card)),
      few_of_bases bytes card.dev 0 card.bases,
      few_of_rom bytes card.dev card.rom,
      few_of_cards bytes later (All-tail IsCard card later each),
      (All-head IsCard card later each).count,
    )

pub few_edges : FewEdges
unfolding edges_of fixed_edges
few_edges setup bytes cards = omega (arith, cards.count, few_of_cards bytes setup.cards cards.each)

-- ---- above an address

-- a board has no more edges above an address
pub few_edges_after :
    (setup : Setup) (bytes : Bytes) (addr : ℕ) → IsCardList setup.cards → edges_after setup bytes addr ≤ most_edges
few_edges_after setup bytes addr cards =
    omega (
      arith,
      length-filter_both (nat_lt addr) (λ edge. not (nat_lt addr edge)) (λ edge. refl) (edges_of setup bytes),
      few_edges setup bytes cards,
    )

pub no_more : (low high : ℕ) (edges : List ℕ) → low ≤ high →
    length (filter (nat_lt high) edges) ≤ length (filter (nat_lt low) edges)
no_more low high [] order = omega arith
no_more low high (edge ∷ later) order = let more = no_more low high later order in grind (arith, nat_tests)

one_less : (addr edge : ℕ) (edges : List ℕ) → addr < edge → Contains edges edge →
    length (filter (nat_lt edge) edges) < length (filter (nat_lt addr) edges)
one_less addr edge [] above (k, within, is) = absurd (omega arith)
one_less addr edge (first ∷ later) above has =
    let more = no_more addr edge later (omega arith) in
    let less = one_less addr edge later above in
    grind (arith, nat_tests, contains_cases first edge later has)

-- fewer edges lie above the next edge
pub fewer_after :
    (setup : Setup) (bytes : Bytes) (addr : ℕ) (found : Option ℕ) → IfSome found (IsNextEdge setup bytes addr) →
    IfSome found (λ edge. edges_after setup bytes edge < edges_after setup bytes addr)
fewer_after setup bytes addr None next = tt
fewer_after setup bytes addr (Some edge) next = one_less addr edge (edges_of setup bytes) next.above next.is_edge.listed
