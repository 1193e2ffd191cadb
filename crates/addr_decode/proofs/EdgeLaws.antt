-- Between two edges all addresses have the same areas.
use Rattle.std.proofs.Common.{◌≡◌, ℕ, ◌+◌, ◌*◌, ◌/◌, ◌^◌, ◌<◌, ◌≤◌, inl, inr, Bool, true, false, List, [], ◌∷◌, ◌++◌}
use Rattle.std.proofs.Common.{Option, Some, None, refl, arith, ◌==◌, All, flat_map, unwrap_or, IfSome, IsNone}
use Rattle.std.proofs.Common.{if◌then◌else◌, slice_index_or}
use Rattle.board_prelude.proofs.{list_any, AllByRecursion, enumerate_from, cases_lt, nat_tests, pow_pos, find-append}
use Rattle.board_prelude.proofs.{recursion_from_All, Kind, FittedCard, Setup, smram_range, upper_memory, is_within}
use Rattle.board_prelude.proofs.{Bytes, Window, row_of, is_in_hole, is_shadowed, is_rom_selected, memory_window}
use Rattle.board_prelude.proofs.{rom_window, is_rom_on, vga_window, memory_windows, is_enabled_for, first_window}
use Rattle.board_prelude.proofs.{memory_claim, area_of, xbcs as select_register, address_count}
use Rattle.std.proofs.lemmas.List.Elements.{All-contains_itself}
use Rattle.addr_decode.specs.Edges.{fixed_edges, row_edges, window_edges, card_edges, edges_of, IsNextEdge, NoEdgeAbove}
use Rattle.addr_decode.specs.Edges.{SameAreas, AreasChangeAtEdges}

-- ---- what holds of each of a list

all_parts : {X : Type 0} (P : X → Type 0) (xs ys : List X) → AllByRecursion P (xs ++ ys) →
    AllByRecursion P xs × AllByRecursion P ys
all_parts P [] ys all = (tt, all)
all_parts P (x ∷ xs) ys all = let later = all_parts P xs ys all.1 in ((all.0, later.0), later.1)

all_listed :
    (P : ℕ → Type 0) (xs : List ℕ) (x : ℕ) → AllByRecursion P xs → list_any (λ other. x == other) xs ≡ true → P x
all_listed P [] x all is = absurd cc
all_listed P (first ∷ later) x all is = let rest = all_listed P later x all.1 in grind (arith, nat_tests, all.0)

-- ---- ranges and windows

-- an edge above the first address lies above the other too
abbrev Clear : ℕ → ℕ → ℕ → Type 0
Clear addr x edge = addr < edge → x < edge

module _ (addr x : ℕ) (order : addr ≤ x) (counts : ℕ → Bool) where
  covered_by : (size quotient : ℕ) → 0 < size → Clear addr x (quotient * size) → Clear addr x (quotient * size + size) →
      (quotient == x / size) ≡ (quotient == addr / size)
  covered_by size quotient positive at_first at_end = grind (arith, nat_tests)

  -- the first of these windows is one at both addresses
  abbrev IsAlike : List Window → Type 0
  IsAlike windows = first_window counts x windows ≡ first_window counts addr windows

  both_alike : (xs ys : List Window) → IsAlike xs → IsAlike ys → IsAlike (xs ++ ys)
  both_alike xs ys first later = grind (arith, nat_tests, find-append)

  where_alike : (holds : Bool) (xs : List Window) → IsAlike xs → IsAlike (if holds then xs else [])
  where_alike true xs alike = alike
  where_alike false xs alike = refl

  windows_alike : (windows : List Window) → AllByRecursion (Clear addr x) (flat_map window_edges windows) →
      IsAlike windows
  windows_alike [] clear = refl
  windows_alike (window ∷ later) clear =
      let first =
      covered_by (2 ^ window.bits) (window.inside / 2 ^ window.bits) (pow_pos window.bits) clear.0 clear.1.0 in
      rw (first, windows_alike later clear.1.1) refl

  each_alike : {A : Type 0} (windows : A → List Window) (xs : List A) → AllByRecursion (Clear addr x)
      (flat_map (λ a. flat_map window_edges (windows a)) xs) → IsAlike (flat_map windows xs)
  each_alike windows [] clear = refl
  each_alike windows (a ∷ later) clear =
      let parts = all_parts (Clear addr x) (flat_map window_edges (windows a)) _ clear in
      both_alike (windows a) _ (windows_alike (windows a) parts.0) (each_alike windows later parts.1)

-- ---- no edge lies above the first address and up to the other

record Between (setup : Setup) (bytes : Bytes) (addr x : ℕ) : Type 0 where
  pub order : addr ≤ x
  pub last : x < address_count
  pub fixed : AllByRecursion (Clear addr x) fixed_edges
  pub rows : AllByRecursion (Clear addr x) (row_edges bytes)
  pub cards : AllByRecursion (Clear addr x) (flat_map (card_edges bytes) setup.cards)

module _ (setup : Setup) (bytes : Bytes) (addr x : ℕ) (between : Between setup bytes addr x) where
  fixed_clear : (edge : ℕ) → list_any (λ other. edge == other) fixed_edges ≡ true → Clear addr x edge
  fixed_clear edge is = all_listed (Clear addr x) fixed_edges edge between.fixed is

  range_same : (first last : ℕ) → list_any (λ other. first == other) fixed_edges ≡ true →
      list_any (λ other. last + 1 == other) fixed_edges ≡ true → is_within first last x ≡ is_within first last addr
  range_same first last at_first at_end =
      grind (arith, nat_tests, between.order, fixed_clear first at_first, fixed_clear (last + 1) at_end)

  hole_same : is_in_hole bytes x ≡ is_in_hole bytes addr
  unfolding fixed_edges
  hole_same = grind (arith, nat_tests)

  -- the ranges of the ROM
  rom_same : (xbcs : ℕ) → is_rom_selected xbcs x ≡ is_rom_selected xbcs addr
  unfolding fixed_edges
  rom_same xbcs = grind (arith, nat_tests)

  shadowed_same : (kind : Kind) → is_shadowed bytes x kind ≡ is_shadowed bytes addr kind
  unfolding fixed_edges
  shadowed_same kind = grind (arith, nat_tests)

  row_same : row_of bytes x ≡ row_of bytes addr
  unfolding row_of
  row_same = grind (arith, nat_tests)

  -- ---- cards

  cards_alike : (counts : ℕ → Bool) (cards : List FittedCard) →
      AllByRecursion (Clear addr x) (flat_map (card_edges bytes) cards) →
      IsAlike addr x between.order counts (flat_map (memory_windows bytes) cards)
  unfolding fixed_edges
  cards_alike counts [] clear = refl
  cards_alike counts (card ∷ later) clear =
      let order = between.order in
      let parts = all_parts (Clear addr x) (card_edges bytes card) _ clear in
      let own = all_parts (Clear addr x) _ (flat_map window_edges (rom_window bytes card)) parts.0 in
      let rom = windows_alike addr x order counts (rom_window bytes card) own.1 in
      let vga = windows_alike addr x order counts
      (record { dev = card.dev; base = 7; inside = 0xA_0000; bits = 17 } ∷ [])
      (fixed_clear 0xA_0000 refl, (fixed_clear 0xC_0000 refl, tt)) in
      both_alike addr x order counts (memory_windows bytes card) _
      (both_alike addr x order counts _ (vga_window card)
      (both_alike addr x order counts _ (if is_rom_on bytes card.dev then rom_window bytes card else [])
      (each_alike addr x order counts (λ numbered. memory_window bytes card.dev numbered.0 numbered.1)
      (enumerate_from 0 card.bases) own.0)
      (where_alike addr x order counts (is_rom_on bytes card.dev) _ rom))
      (where_alike addr x order counts card.vga _ vga))
      (cards_alike counts later parts.1)

  -- ---- the areas

  area_same : (kind : Kind) (smm : Bool) → area_of setup bytes x kind smm ≡ area_of setup bytes addr kind smm
  unfolding area_of fixed_edges memory_claim
  area_same kind smm =
      rw (
        row_same,
        shadowed_same kind,
        hole_same,
        rom_same (bytes select_register),
        range_same smram_range.0 smram_range.1 refl refl,
        range_same upper_memory.0 upper_memory.1 refl refl,
        cards_alike (is_enabled_for 1 bytes) setup.cards between.cards,
      ) refl

pub areas_change_at_edges : AreasChangeAtEdges
unfolding edges_of
areas_change_at_edges setup bytes addr x order last clear =
    let all : All (Clear addr x) (edges_of setup bytes) = λ k d within above.
    let edge = slice_index_or (edges_of setup bytes) k d in
    elim (cases_lt edge address_count) [
      | inl below ↦
          clear edge (record { listed = All-contains_itself (edges_of setup bytes) k d within; address = below }) above
      | inr not_below ↦ omega arith
    ] in
    let parts = all_parts (Clear addr x) fixed_edges _ (recursion_from_All (Clear addr x) (edges_of setup bytes) all) in
    let others = all_parts (Clear addr x) (row_edges bytes) _ parts.1 in
    simp (area_same setup bytes addr x
    (record { order = order; last = last; fixed = parts.0; rows = others.0; cards = others.1 }))

-- up to the next edge, or to the last address where there is none
pub same_to_next : (setup : Setup) (bytes : Bytes) (addr : ℕ) (found : Option ℕ) →
    IfSome found (IsNextEdge setup bytes addr) → (IsNone found → NoEdgeAbove setup bytes addr) →
    SameAreas setup bytes addr (unwrap_or found address_count)
same_to_next setup bytes addr None next none x order before =
    areas_change_at_edges setup bytes addr x order before
    (λ edge there above. absurd (omega (arith, none refl edge there)))
same_to_next setup bytes addr (Some edge) next none x order before =
    areas_change_at_edges setup bytes addr x order (omega (arith, next.is_edge.address))
    (λ other there above. omega (arith, next.least other there above))
