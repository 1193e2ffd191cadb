-- In a rising list of edges the first above an address is the least above it.
use Rattle.std.proofs.Common.{◌≡◌, ℕ, suc, ◌*◌, ◌^◌, ◌<◌, ◌≤◌, List, [], ◌∷◌, map, drop, Option, Some, None, refl, ◌∙◌}
use Rattle.std.proofs.Common.{ap, arith, nat_lt, find, slice_index}
use Rattle.board_prelude.proofs.{nat_tests, address_count, boundary_unit}
use Rattle.addr_decode.specs.Edges.{fixed_edges}
use Rattle.addr_decode.specs.EdgeSearch.{nearer, nearest}

-- they rise from an edge on, and all are addresses
abbrev Rise : ℕ → List ℕ → Type 0
Rise from [] = Unit {0}
Rise from (edge ∷ later) = (from ≤ edge) × (edge < address_count) × Rise edge later

rise_from_lower : (from lower : ℕ) (edges : List ℕ) → lower ≤ from → Rise from edges → Rise lower edges
rise_from_lower from lower [] order rise = tt
rise_from_lower from lower (edge ∷ later) order rise = (omega (arith, rise.0), rise.1, rise.2)

nearest_stays : (addr least : ℕ) (edges : List ℕ) → Rise least edges → nearest addr (Some least) edges ≡ Some least
unfolding nearest
nearest_stays addr least [] rise = grind (arith, nat_tests)
nearest_stays addr least (edge ∷ later) rise = grind (
  arith,
  nat_tests,
  nearest_stays addr least later
      (rise_from_lower edge least later rise.0 rise.2),
)

pub first_is_nearest :
    (addr from : ℕ) (edges : List ℕ) → Rise from edges → find (nat_lt addr) edges ≡ nearest addr None edges
unfolding nearest
first_is_nearest addr from [] rise = refl
first_is_nearest addr from (edge ∷ later) rise =
    let here = nearest_stays addr edge later rise.2 in
    let rest = first_is_nearest addr edge later rise.2 in
    grind (arith, nat_tests, rise.1)

pub skip_to_system_bios : (addr : ℕ) → 0x10_0000 ≤ addr →
    find (nat_lt addr) (drop 16 fixed_edges) ≡ find (nat_lt addr) fixed_edges
unfolding fixed_edges
skip_to_system_bios addr from = grind (arith, nat_tests)

-- ---- the ends of rows

-- where none of them is nearer, the search stays
pub rows_stay : (addr : ℕ) (found : Option ℕ) (drb : List ℕ) → ((k : ℕ) → slice_index drb k < 2 ^ 8) →
    ((boundary : ℕ) → boundary < 2 ^ 8 → nearer addr found (boundary * boundary_unit) ≡ found) →
    nearest addr found (map (λ boundary. boundary * boundary_unit) drb) ≡ found
unfolding nearest
rows_stay addr found [] bytes far = refl
rows_stay addr found (boundary ∷ later) bytes far =
    ap (λ (least : Option ℕ). nearest addr least (map (λ boundary. boundary * boundary_unit) later))
    (far boundary (bytes 0))
    ∙ rows_stay addr found later (λ k. bytes (suc k)) far

pub ruleset fixed = (nat_tests, skip_to_system_bios)
