-- Each window that a change may change ends where it begins or above. Addresses outside windows and outside their
-- bounds.
use Rattle.board_prelude.proofs.{common_steps, nat_tests, AllByRecursion, bytes_of, MapChange, Store, Reset, Setup}
use Rattle.board_prelude.proofs.{Bytes, Window, reg_after, ne_eqb, pow_pos, is_covered, and-false, each_below}
use Rattle.board_prelude.proofs.{length-map, list_all}
use Rattle.std.proofs.Common.{◌≡◌, ℕ, zero, suc, ◌≤◌, List, [], ◌∷◌, ◌++◌, map, Option, Some, None, refl, arith}
use Rattle.std.proofs.Common.{flat_map, get_or, length, take, ◌<◌, ◌⊎◌, inl, inr, Bool, true, false, rules, ◌&&◌, IfSome, find}
use Rattle.std.proofs.ByRecursion.{All-append}
use Rattle.map_builder.specs.declared.range.Changed.{Changed}
use Rattle.addr_decode.specs.declared.register.MapRegister.{MapRegister}
use Rattle.addr_decode.specs.declared.register.MapRegister.TheVariants.{Pam, RowBoundary, Single, Card}
use Rattle.addr_decode.specs.MapRegister.{map_register}
use Rattle.addr_decode.specs.Singles.{decided, ends_of_range, single_count, single_rows}
use Rattle.board_spec.specs.declared.range.AddressRange.{AddressRange}
use Rattle.addr_decode.specs.Edges.{fixed_edges}
use Rattle.addr_decode.proofs.NameLemmas.{offsets}
use Rattle.map_builder.specs.Changed.{decoded, name_windows, windows_of, windows_covered, changed_windows, bounds}
use Rattle.map_builder.specs.Changed.{whole, pam_windows, single_windows, bounds_or_zero, both, IsOutside}
use Rattle.map_builder.specs.Changed.{after}
use Rattle.map_builder.specs.Laws.{WindowsEndAtEdges, is_between_edges}
use Rattle.std.proofs.Math.Pow.{split}

abbrev pub IsOrdered : Changed → Type 0
IsOrdered window = window.lo ≤ window.hi

abbrev pub Ordered : List Changed → Type 0
Ordered windows = AllByRecursion IsOrdered windows

-- ---- windows

ordered_flat_map : (windows : ℕ → List Changed) (ks : List ℕ) → ((k : ℕ) → Ordered (windows k)) →
    Ordered (flat_map windows ks)
ordered_flat_map windows [] each = tt
ordered_flat_map windows (k ∷ ks) each =
    All-append IsOrdered (windows k) (flat_map windows ks) (each k) (ordered_flat_map windows ks each)

decoded_ordered : (windows : List Window) → Ordered (map decoded windows)
decoded_ordered [] = tt
decoded_ordered (window ∷ later) = (omega arith, decoded_ordered later)

-- of the ranges that a register of one byte decides there are few, and each ends where it begins or above
abbrev Fine : List (ℕ × ℕ) → Type 0
Fine ranges = (length ranges ≤ 8) × Ordered (map whole ranges)

each_row : (rows : List (List (ℕ × ℕ))) → AllByRecursion Fine rows → (k : ℕ) → Fine (get_or rows k [])
each_row [] all k = (omega arith, tt)
each_row (row ∷ later) all zero = all.0
each_row (row ∷ later) all (suc k) = each_row later all.1 k

decided_fine : (number : ℕ) → Fine (decided number)
decided_fine number = each_row (map (λ row. row.decides) single_rows) (search arith) number

pub decided_few : (number : ℕ) (ranges : List AddressRange) → map ends_of_range ranges ≡ decided number →
    length ranges ≤ 8
decided_few number ranges is =
    let few : length (map ends_of_range ranges) ≤ 8 = rw is (decided_fine number).0 in
    omega (arith, few, length-map ranges ends_of_range)

-- both are at edges
pub windows_end_at_edges : WindowsEndAtEdges
unfolding fixed_edges
windows_end_at_edges = record {
  pam = λ number below.
      each_below (λ number. is_between_edges (pam_windows number) ≡ true) 7 number (search rules) below;
  singles = λ number below.
      each_below (λ number. list_all is_between_edges (single_windows number) ≡ true) single_count number
      (search rules) below;
}

name_ordered : (setup : Setup) (bytes : Bytes) (name : Option MapRegister) → Ordered (name_windows setup bytes name)
name_ordered setup bytes None = tt
name_ordered setup bytes (Some (Pam number)) = (grind (arith, nat_tests), tt)
name_ordered setup bytes (Some (RowBoundary row)) = (omega arith, tt)
name_ordered setup bytes (Some (Single number)) = (decided_fine number).1
name_ordered setup bytes (Some (Card dev register)) = grind (arith, nat_tests, decoded_ordered)

pub covered_ordered : (setup : Setup) (bytes : Bytes) (change : MapChange) →
    Ordered (windows_covered setup bytes change)
unfolding windows_covered
covered_ordered setup bytes Reset = (omega arith, tt)
covered_ordered setup bytes (Store reg width value) =
    ordered_flat_map (λ k. windows_of setup bytes (reg_after reg k)) (take (bytes_of width) offsets)
    (λ k. name_ordered setup bytes (map_register setup.cards (reg_after reg k)))

pub changed_ordered : (setup : Setup) (bytes : Bytes) (change : MapChange) →
    Ordered (changed_windows setup bytes change)
changed_ordered setup bytes change =
    All-append IsOrdered (windows_covered setup bytes change) _ (covered_ordered setup bytes change)
    (covered_ordered setup (after setup change bytes) change)

-- ---- addresses outside windows

-- an address outside all of some windows
abbrev pub Outside : ℕ → List Changed → Type 0
Outside addr windows = AllByRecursion (IsOutside addr) windows

-- an interval begins after an address, or ends below another. Where they are one address, it lies outside
abbrev pub Misses : (low high : ℕ) → Changed → Type 0
Misses low high interval = (low < interval.lo) ⊎ (interval.hi < high)

pub misses_both : {low high : ℕ} (here there : Changed) → Misses low high (both here there) →
    Misses low high here × Misses low high there
misses_both here there (inl below) = (inl (omega arith), inl (omega arith))
misses_both here there (inr above) = (inr (omega arith), inr (omega arith))

outside_each : (addr : ℕ) (windows : List Changed) → IfSome (bounds windows) (IsOutside addr) → Outside addr windows
unfolding bounds
outside_each addr [] out = tt
outside_each addr (window ∷ later) out = grind (arith, nat_tests, outside_each addr later)

-- and outside their bounds
pub outside_bounds : (addr : ℕ) (windows : List Changed) → IsOutside addr (bounds_or_zero windows) →
    Outside addr windows
outside_bounds addr windows out = grind (arith, nat_tests, outside_each addr windows)

-- ---- parts of a list of windows

pub outside_parts : (addr : ℕ) (xs ys : List Changed) → Outside addr (xs ++ ys) → Outside addr xs × Outside addr ys
outside_parts addr [] ys out = (tt, out)
outside_parts addr (x ∷ xs) ys out = let parts = outside_parts addr xs ys out.1 in ((out.0, parts.0), parts.1)

-- ---- windows of cards

pub not_covered : (addr : ℕ) (window : Window) → IsOutside addr (decoded window) → is_covered addr window ≡ false
not_covered addr window out = grind (arith, nat_tests, common_steps, ne_eqb, split, pow_pos)

pub none_covered : (addr : ℕ) (windows : List Window) (counts : ℕ → Bool) → Outside addr (map decoded windows) →
    find (λ window. counts window.dev && is_covered addr window) windows ≡ None
none_covered addr [] counts out = refl
none_covered addr (window ∷ later) counts out =
    rw (not_covered addr window out.0, and-false (counts window.dev)) (none_covered addr later counts out.1)
