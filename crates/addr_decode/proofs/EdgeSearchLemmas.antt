-- The next edge as the code looks for it is the least edge above an address.
use Rattle.std.proofs.Common.{◌≡◌, ℕ, zero, suc, ◌+◌, ◌*◌, ◌<◌, ◌≤◌, ◌⊎◌, inl, inr, List, [], ◌∷◌, ◌++◌, length, map}
use Rattle.std.proofs.Common.{Option, Some, None, refl, sym, ap, ◌∙◌, arith, All, flat_map, slice_index, unwrap_or}
use Rattle.std.proofs.Common.{IfSome, IsNone, ◌↔◌}
use Rattle.board_prelude.proofs.{Contains, enumerate_from, cases_lt, nat_tests, All-head, All-tail, Base, Setup, IsCard}
use Rattle.board_prelude.proofs.{boundary_unit, Bytes, base_value, memory_window, rom_window_of, address_count}
use Rattle.board_prelude.proofs.{ext_get_or}
use Rattle.std.proofs.lemmas.List.Elements.{Contains-append_cases, Contains-append_left, Contains-append_right}
use Rattle.std.proofs.lemmas.List.Sums.{fold-append}
use Rattle.host_bridge.specs.Pmc.{IsRowsOf}
use Rattle.host_bridge.proofs.RowNames.{row_bytes, rows_are}
use Rattle.pci_bars.specs.Cards.{CardBytes, HoldsRom, DecodesAs, AreCards, AreDecoded, cards_of}
use Rattle.addr_decode.specs.Edges.{fixed_edges, row_edges, window_edges, card_edges, edges_of, IsNextEdge, NoEdgeAbove}
use Rattle.addr_decode.specs.EdgeSearch.{nearer, nearest, ends_from, ends_of_rom, ends_of_card}

-- ---- the edges, as the code keeps them

ends_same :
    (bytes : Bytes) (dev : ℕ) (values : List ℕ) → ((k : ℕ) → k < 6 → base_value bytes dev k ≡ slice_index values k) →
    (k : ℕ) (bases : List Base) → k + length bases ≤ 6 →
    ends_from values k bases
    ≡ flat_map (λ numbered. flat_map window_edges (memory_window bytes dev numbered.0 numbered.1))
    (enumerate_from k bases)
ends_same bytes dev values same k [] few = refl
ends_same bytes dev values same k (base ∷ later) few =
    let here = same k (omega arith) in
    let rest = ends_same bytes dev values same (k + 1) later (omega arith) in
    grind arith

rom_same : (bytes : Bytes) (dev register : ℕ) (rom : Option ℕ) → HoldsRom bytes dev register rom →
    ends_of_rom rom register ≡ flat_map window_edges (rom_window_of bytes dev rom)
rom_same bytes dev register None held = refl
rom_same bytes dev register (Some bits) held = rw (sym held.number) refl

cards_same : (setup : Setup) (bytes : Bytes) (cards : List CardBytes) → AreCards cards →
    All (DecodesAs setup bytes) cards → flat_map ends_of_card cards ≡ flat_map (card_edges bytes) (cards_of cards)
cards_same setup bytes [] fit are = refl
cards_same setup bytes (card ∷ later) fit are =
    let is = All-head (DecodesAs setup bytes) card later are in
    let few = (All-head (λ card. IsCard card.card) card later fit).count in
    rw (
      ends_same bytes card.card.dev card.bases (λ k below. (is.bases k below).number) 0 card.card.bases (omega arith),
      rom_same bytes card.card.dev card.rom card.card.rom is.rom,
      cards_same setup bytes later (All-tail (λ card. IsCard card.card) card later fit)
          (All-tail (DecodesAs setup bytes) card later are),
    ) refl

rows_same : (bytes : Bytes) (drb : List ℕ) → length drb ≡ 8 → IsRowsOf bytes drb →
    map (λ b. b * boundary_unit) drb ≡ row_edges bytes
rows_same bytes drb eight is =
    ap (map (λ b. b * boundary_unit)) (ext_get_or 0 drb (row_bytes bytes) eight (λ row within.
    is row (omega arith) ∙ sym (rows_are bytes (row_bytes bytes) refl row (omega arith))))

-- ---- the least of a list of edges

pub contains_cases : (edge x : ℕ) (later : List ℕ) → Contains (edge ∷ later) x → (edge ≡ x) ⊎ Contains later x
contains_cases edge x later (zero, within, is) = inl is
contains_cases edge x later (suc k, within, is) = inr (k, omega arith, is)

-- an edge is one of a list and lies above an address
pub record IsAbove (addr : ℕ) (edges : List ℕ) (edge : ℕ) : Type 0 where
  pub listed : Contains edges edge
  pub above : addr < edge
  pub below : edge < address_count

-- where the search stands: at the edge found, or past all addresses
abbrev pub end_at : Option ℕ → ℕ
end_at found = unwrap_or found address_count

-- the search stands where it began, or at an edge of the list, and at none that is greater than another of these
pub record IsLeast (addr : ℕ) (edges : List ℕ) (start found : Option ℕ) : Type 0 where
  pub falls : end_at found ≤ end_at start
  pub here : (edge : ℕ) → found ≡ Some edge → (start ≡ Some edge) ⊎ IsAbove addr edges edge
  pub reaches : (edge : ℕ) → IsAbove addr edges edge → end_at found ≤ edge

nearer_is : (addr edge : ℕ) (found : Option ℕ) →
    (nearer addr found edge ≡ found) ⊎ ((nearer addr found edge ≡ Some edge) × (addr < edge) × (edge < address_count))
nearer_is addr edge found = grind (arith, nat_tests)

pub nearest_is_least :
    (addr : ℕ) (edges : List ℕ) (start : Option ℕ) → IsLeast addr edges start (nearest addr start edges)
unfolding nearest
nearest_is_least addr [] start = record {
  falls = omega arith;
  here = λ edge is. inl is;
  reaches = λ edge is. absurd (omega (arith, is.listed.1));
}
nearest_is_least addr (edge ∷ later) start =
    let rest = nearest_is_least addr later (nearer addr start edge) in
    let falls = rest.falls in
    record {
      falls = grind (arith, nat_tests);
      here = λ other is. elim (rest.here other is) [
        | inr there ↦
            let listed = Contains-append_right (edge ∷ []) later other there.listed in
            inr (record { listed = listed; above = there.above; below = there.below })
        | inl now ↦ elim (nearer_is addr edge start) [
          | inl kept ↦ inl (sym kept ∙ now)
          | inr new ↦
              let same : edge ≡ other = cc in
              inr (rw (← same) (record { listed = (0, omega arith, refl); above = new.1; below = new.2 }))
        ]
      ];
      reaches = λ other is. elim (contains_cases edge other later is.listed) [
        | inl here ↦ let above = is.above in let below = is.below in grind (arith, nat_tests)
        | inr there ↦ rest.reaches other (record { listed = there; above = is.above; below = is.below })
      ];
    }

-- ---- the next edge of a board

pub least_above : (addr : ℕ) (edges : List ℕ) (found : Option ℕ) → found ≡ nearest addr None edges →
    IfSome found (λ edge. addr < edge)
least_above addr edges found is = let least = nearest_is_least addr edges None in grind (arith, least.here)

module _ (setup : Setup) (bytes : Bytes) (addr : ℕ) where
  pub is_next : (found : Option ℕ) → IsLeast addr (edges_of setup bytes) None found →
      IfSome found (IsNextEdge setup bytes addr)
  is_next None is = tt
  is_next (Some edge) is =
      elim (is.here edge refl) [
        | inl none ↦ absurd cc
        | inr here ↦ record {
          is_edge = record { listed = here.listed; address = here.below };
          above = here.above;
          least = λ other there above.
              is.reaches other (record { listed = there.listed; above = above; below = there.address });
        }
      ]

  pub is_last : (found : Option ℕ) → IsLeast addr (edges_of setup bytes) None found →
      IsNone found ↔ NoEdgeAbove setup bytes addr
  is_last None is = (
    (λ _ edge there.
        elim (cases_lt addr edge) [
          | inl above ↦
              let past = is.reaches edge (record { listed = there.listed; above = above; below = there.address }) in
              absurd (omega (arith, there.address))
          | inr not_above ↦ not_above
        ]),
    (λ _. refl),
  )
  is_last (Some edge) is =
      let next = is_next (Some edge) is in
      ((λ none. cc), (λ none_above. absurd (omega (arith, none_above edge next.is_edge, next.above))))

-- ---- the parts of the list

-- one list after another, above the same address
pub in_two : (addr addr' : ℕ) (found first all : Option ℕ) (xs ys : List ℕ) → addr' ≡ addr →
    first ≡ nearest addr found xs → all ≡ nearest addr' first ys → all ≡ nearest addr found (xs ++ ys)
unfolding nearest
in_two addr addr' found first all xs ys same is_first is_all =
    rw (is_all, same, is_first, fold-append (nearer addr) found xs ys) refl

swapped : (xs ys zs : List ℕ) (edge : ℕ) → Contains (xs ++ (ys ++ zs)) edge → Contains (xs ++ (zs ++ ys)) edge
swapped xs ys zs edge is =
    grind (
      arith,
      Contains-append_cases xs (ys ++ zs) edge,
      Contains-append_cases ys zs edge,
      Contains-append_left xs (zs ++ ys) edge,
      Contains-append_right xs (zs ++ ys) edge,
      Contains-append_right zs ys edge,
      Contains-append_left zs ys edge,
    )

above_swapped : (addr : ℕ) (xs ys zs : List ℕ) (edge : ℕ) → IsAbove addr (xs ++ (ys ++ zs)) edge →
    IsAbove addr (xs ++ (zs ++ ys)) edge
above_swapped addr xs ys zs edge is =
    record { listed = swapped xs ys zs edge is.listed; above = is.above; below = is.below }

-- those that the code sees are those of the board, with the rows last
pub edges_seen : (setup : Setup) (bytes : Bytes) (drb : List ℕ) (cards : List CardBytes) (addr : ℕ) (found : Option ℕ) →
    length drb ≡ 8 → IsRowsOf bytes drb → AreCards cards → AreDecoded setup bytes cards →
    found ≡ nearest addr None (fixed_edges ++ (flat_map ends_of_card cards ++ map (λ b. b * boundary_unit) drb)) →
    IsLeast addr (edges_of setup bytes) None found
unfolding edges_of
edges_seen setup bytes drb cards addr found eight is_rows fit are is =
    let ends = flat_map (card_edges bytes) (cards_of cards) in
    let least = nearest_is_least addr (fixed_edges ++ (ends ++ row_edges bytes)) None in
    rw (is, are.0, cards_same setup bytes cards fit are.1, rows_same bytes drb eight is_rows) (record {
      falls = least.falls;
      here = λ edge at. elim (least.here edge at) [
        | inl none ↦ inl none
        | inr here ↦ inr (above_swapped addr fixed_edges ends (row_edges bytes) edge here)
      ];
      reaches = λ other there.
          least.reaches other (above_swapped addr fixed_edges (row_edges bytes) ends other there);
    })
