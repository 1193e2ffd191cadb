-- Words that lie in one area.
use Rattle.std.proofs.Common.{◌≡◌, ℕ, zero, suc, ◌+◌, ◌-◌, ◌*◌, ◌/◌, ◌<◌, ◌≤◌, max, false, ◌++◌, Option, Some, None}
use Rattle.std.proofs.Common.{refl, sym, ap, ◌∙◌, arith, lit<, IfSome, IsNone, unwrap_or, flat_map}
use Rattle.board_prelude.proofs.{nat_tests, Kind, Setup, smram_range, Bytes, area_of, is_smram_range, address_count}
use Rattle.board_prelude.proofs.{six_areas}
use Rattle.std.proofs.lemmas.List.Elements.{Contains-append_left}
use Rattle.addr_decode.specs.Edges.{IsEdge, IsNextEdge, NoEdgeAbove, SameAreas, card_edges, edges_of, fixed_edges}
use Rattle.addr_decode.specs.Edges.{row_edges}
use Rattle.addr_decode.specs.Master.{master_area}
use Rattle.bus_master.specs.Transfer.{address_after}

-- outside the range of SMRAM a bus master reaches what a processor does
outside_area : (setup : Setup) (bytes : Bytes) (addr : ℕ) (kind : Kind) → is_smram_range addr ≡ false →
    master_area setup bytes addr kind ≡ area_of setup bytes addr kind false
unfolding master_area area_of
outside_area setup bytes addr kind outside = rw outside refl

-- that range begins at an edge
smram_edge : (setup : Setup) (bytes : Bytes) → IsEdge setup bytes smram_range.0
unfolding edges_of fixed_edges
smram_edge setup bytes = record {
  listed =
      Contains-append_left fixed_edges (row_edges bytes ++ flat_map (card_edges bytes) setup.cards) smram_range.0
      (1, lit< tt, refl);
  address = lit< tt;
}

module _ (setup : Setup) (bytes : Bytes) (addr : ℕ) where
  -- up to the next edge the range does not begin
  still_outside : (found : Option ℕ) → IfSome found (IsNextEdge setup bytes addr) →
      (IsNone found → NoEdgeAbove setup bytes addr) → is_smram_range addr ≡ false → (x : ℕ) → addr ≤ x →
      x < unwrap_or found address_count → is_smram_range x ≡ false
  still_outside None next none outside x from below =
      let last : smram_range.0 ≤ addr = none refl smram_range.0 (smram_edge setup bytes) in grind (arith, nat_tests)
  still_outside (Some edge) next none outside x from below =
      let first = next.least smram_range.0 (smram_edge setup bytes) in grind (arith, nat_tests)

  same_kind : (kind : Kind) (x : ℕ) → six_areas setup bytes x ≡ six_areas setup bytes addr →
      area_of setup bytes x kind false ≡ area_of setup bytes addr kind false
  same_kind kind x same = grind (arith, nat_tests)

  before_end : (found : Option ℕ) → IfSome found (IsNextEdge setup bytes addr) → (x : ℕ) →
      x < unwrap_or found 0xFFFF_FFFF → (x < unwrap_or found address_count) × (x < address_count)
  before_end found next x below = grind (arith, nat_tests)

  -- up to the end of an area a word has it, and so has the first word
  pub in_area : (kind : Kind) (found : Option ℕ) → IfSome found (IsNextEdge setup bytes addr) →
      (IsNone found → NoEdgeAbove setup bytes addr) → SameAreas setup bytes addr (unwrap_or found address_count) →
      is_smram_range addr ≡ false → addr < address_count → (i : ℕ) →
      i < max ((unwrap_or found 0xFFFF_FFFF - addr) / 2) 1 →
      master_area setup bytes (address_after addr (2 * i)) kind ≡ master_area setup bytes addr kind
  in_area kind found next none same outside fits zero below = grind (arith, nat_tests)
  in_area kind found next none same outside fits (suc i) below =
      let x : ℕ = addr + 2 * suc i in
      let bounds : (x < unwrap_or found address_count) × (x < address_count) = before_end found next x (omega arith) in
      let at : address_after addr (2 * suc i) ≡ x = omega (arith, bounds.1) in
      ap (λ (a : ℕ). master_area setup bytes a kind) at
      ∙ outside_area setup bytes x kind (still_outside found next none outside x (omega arith) bounds.0)
      ∙ same_kind kind x (same x (omega arith) bounds.0)
      ∙ sym (outside_area setup bytes addr kind outside)

  -- the first word alone
  pub first_in_area : (kind : Kind) → addr < address_count → (i : ℕ) → i < 1 →
      master_area setup bytes (address_after addr (2 * i)) kind ≡ master_area setup bytes addr kind
  first_in_area kind fits i below = ap (λ (at : ℕ). master_area setup bytes at kind) (omega (arith, below, fits))
