-- What a store to the boundaries of the rows of DRAM moves, and that no more rows are looked up for it than the bound
-- says.
use Rattle.std.proofs.lemmas.Grind.{common_steps}
use Rattle.std.proofs.lemmas.Bool.{cases_Bool, cases_lt, false≢true, and_parts}
use Rattle.std.proofs.lemmas.Bool.Decides.{nat_tests}
use Rattle.board_base.proofs.WidthLemmas.{some_bytes}
use Rattle.board_prelude.proofs.{AllByRecursion, list_any, Width, One, Reg, bytes_of, MapChange, Store, Reset}
use Rattle.board_prelude.proofs.{FittedCard, Setup, IsCardList, covers, Bytes, row_of, reg_after, six_areas}
use Rattle.std.proofs.Common.{◌≡◌, ℕ, zero, suc, ◌⊎◌, ◌+◌, ◌*◌, ◌<◌, ◌≤◌, inl, inr, true, false, List, [], ◌∷◌, ◌++◌}
use Rattle.std.proofs.Common.{take, refl, arith, Option, Some, min, max, slice_index, find, flat_map, below_more}
use Rattle.board_base.specs.declared.access.Width.TheVariants.{Two, Four}
use Rattle.addr_decode.specs.declared.register.MapRegister.{MapRegister}
use Rattle.addr_decode.specs.declared.register.MapRegister.TheVariants.{RowBoundary}
use Rattle.addr_decode.specs.MapRegister.{map_register, names_of}
use Rattle.addr_decode.specs.MapRegs.{MapBytes, StandsFor}
use Rattle.addr_decode.specs.Edges.{edges_of, edges_after}
use Rattle.addr_decode.proofs.NameLemmas.{is_name}
use Rattle.std.proofs.lemmas.List.Folds.{list_all-map}
use Rattle.map_builder.specs.declared.range.Changed.{Changed}
use Rattle.map_builder.specs.Bounds.{from_to}
use Rattle.map_builder.specs.Changed.{name_windows, windows_of, windows_covered, after, changed_windows, is_inside}
use Rattle.map_builder.specs.Changed.{edges_inside, count_of, IsOutside}
use Rattle.map_builder.specs.Rows.{is_row_name, stores_rows, is_below, IsHidden, StaysOrHidden, RowStays, IsInRows}
use Rattle.map_builder.specs.Rows.{AreMoved}
use Rattle.map_builder.specs.Sorted.{Rise, rows_in}
use Rattle.map_builder.proofs.KeptLemmas.{is_boundary, areas_same, covered_at, row_by, rows_from}
use Rattle.map_builder.proofs.SortedLemmas.{filter_more, rows_rise}

-- ---- the registers that such a store covers

-- a change covers boundaries of rows, DRB0 to DRB7, and no other register
abbrev pub CoversRows : List FittedCard → MapChange → Type 0
CoversRows cards change = stores_rows (names_of cards change) ≡ true

each_row : (setup : Setup) (at : Reg) (width : Width) (value k : ℕ) → CoversRows setup.cards (Store at width value) →
    k < bytes_of width → is_row_name (map_register setup.cards (reg_after at k)) ≡ true
each_row setup at width value k rows below = grind (arith, nat_tests, common_steps, and_parts, list_all-map)

named_row : (cards : List FittedCard) (reg : Reg) (name : Option MapRegister) → map_register cards reg ≡ name →
    is_row_name name ≡ true → is_boundary reg ≡ true
named_row cards reg (Some (RowBoundary row)) named is =
    let name = is_name cards reg (RowBoundary row) named in
    let number : row < 8 = name.number in
    rw (← name.place) (grind (arith, nat_tests))
named_row cards reg _ named is = absurd (false≢true is)

-- ---- the areas outside of what moves

-- a register beside the boundaries is not covered
beside : (setup : Setup) (at : Reg) (width : Width) (value : ℕ) (reg : Reg) →
    CoversRows setup.cards (Store at width value) → is_boundary reg ≡ false → covers at width reg ≡ false
beside setup at width value reg rows other =
    let is = covered_at at width reg in
    let row = λ (k : ℕ). each_row setup at width value k rows in
    let boundary = named_row setup.cards reg _ refl in
    grind (arith, nat_tests, cases_Bool (covers at width reg), is, row, boundary)

-- two tests of rows, of which the one fails where the other does, find the same row first
same_first : (old new : List ℕ) (addr first count : ℕ) → ((row : ℕ) → row < first → is_below old addr row ≡ false) →
    ((row : ℕ) → row < first + count → StaysOrHidden old new addr row) →
    find (is_below new addr) (rows_from first count) ≡ find (is_below old addr) (rows_from first count)
same_first old new addr first zero none alike = refl
same_first old new addr first (suc count) none alike =
    let here = alike first (omega arith) in
    let none_here = below_more (λ row. is_below old addr row ≡ false) first none in
    let rest = λ (not : is_below old addr first ≡ false).
    same_first old new addr (first + 1) count (none_here not) (λ row below. alike row (omega arith)) in
    grind (arith, nat_tests, here, none, rest)

row_kept : (old new : MapBytes) (setup : Setup) (bytes later : Bytes) (addr : ℕ) → StandsFor setup bytes old →
    StandsFor setup later new → RowStays old.drb new.drb addr → row_of later addr ≡ row_of bytes addr
row_kept old new setup bytes later addr stands stands' stays =
    let alike : is_below old.drb addr 7 ≡ true → (row : ℕ) → row < 8 → StaysOrHidden old.drb new.drb addr row =
    λ below row high. grind (arith, nat_tests, stays.each below row, stays.top) in
    let same = λ (below : is_below old.drb addr 7 ≡ true).
    same_first old.drb new.drb addr 0 8 (λ row none. absurd (omega arith)) (alike below) in
    rw (row_by bytes old.drb addr stands.rows, row_by later new.drb addr stands'.rows, stays.top)
    (grind (arith, same))

pub rows_keep : (old new : MapBytes) (setup : Setup) (bytes : Bytes) (change : MapChange) (addr : ℕ) →
    CoversRows setup.cards change → IsCardList setup.cards → StandsFor setup bytes old →
    StandsFor setup (after setup change bytes) new → RowStays old.drb new.drb addr →
    six_areas setup (after setup change bytes) addr ≡ six_areas setup bytes addr
rows_keep old new setup bytes Reset addr rows list stands stands' stays = absurd (false≢true rows)
rows_keep old new setup bytes (Store at width value) addr rows list stands stands' stays =
    let later : Bytes = after setup (Store at width value) bytes in
    areas_same setup bytes later addr (λ reg other. inl (rw (beside setup at width value reg rows other) refl))
    (row_kept old new setup bytes later addr stands stands' stays) list

-- ---- how many rows are looked up

-- the windows of a store begin with that of all rows
abbrev BeginsWithRows : List Changed → Type 0
BeginsWithRows windows = (rest : List Changed) × (windows ≡ from_to 0 0x7F7F_FFFF ∷ rest)

row_windows : (setup : Setup) (bytes : Bytes) (name : Option MapRegister) → is_row_name name ≡ true →
    name_windows setup bytes name ≡ from_to 0 0x7F7F_FFFF ∷ []
row_windows setup bytes name is = grind (arith, nat_tests)

first_offset : (windows : ℕ → List Changed) (width : Width) (more : List Changed) →
    windows 0 ≡ from_to 0 0x7F7F_FFFF ∷ [] →
    BeginsWithRows (flat_map windows (take (bytes_of width) (0 ∷ 1 ∷ 2 ∷ 3 ∷ [])) ++ more)
first_offset windows One more first = (more, rw first refl)
first_offset windows Two more first = (flat_map windows (1 ∷ []) ++ more, rw first refl)
first_offset windows Four more first = (flat_map windows (1 ∷ 2 ∷ 3 ∷ []) ++ more, rw first refl)

begins : (setup : Setup) (bytes : Bytes) (change : MapChange) → CoversRows setup.cards change →
    BeginsWithRows (changed_windows setup bytes change)
unfolding windows_covered
begins setup bytes Reset rows = absurd (false≢true rows)
begins setup bytes (Store at width value) rows =
    let all : Bytes → List Changed = λ it. windows_covered setup it (Store at width value) in
    first_offset (λ k. windows_of setup bytes (reg_after at k)) width (all (after setup (Store at width value) bytes))
    (row_windows setup bytes _ (each_row setup at width value 0 rows (omega (arith, some_bytes width))))

count_some : (window : Changed) (later : List Changed) → 1 ≤ count_of (window ∷ later)
unfolding count_of
count_some window [] = omega arith
count_some window (other ∷ later) = grind (arith, nat_tests, common_steps, cases_Bool, list_any, count_some other later)

inside_rows : (window : Changed) (rest : List Changed) (edge : ℕ) → IsInRows window →
    is_inside (from_to 0 0x7F7F_FFFF ∷ rest) edge ≡ false → is_inside (window ∷ []) edge ≡ false
inside_rows window rest edge within not = let high = within.1 in grind (arith, nat_tests)

past_rows : (addr : ℕ) (window : Changed) → IsInRows window → IsOutside addr (from_to 0 0x7F7F_FFFF) →
    IsOutside addr window
past_rows addr window within out = let high = within.1 in grind (arith, nat_tests)

-- what moves rises and lies in the windows that change, and so few rows are looked up in it
pub moved_within : (setup : Setup) (bytes new : Bytes) (change : MapChange) {old_rows new_rows : List ℕ}
    (windows : List Changed) → CoversRows setup.cards change → AreMoved old_rows new_rows windows →
    Rise windows × (rows_in (edges_after setup new) windows ≤ count_of (changed_windows setup bytes change)
    + edges_inside setup new (changed_windows setup bytes change)) × ((addr : ℕ) →
    AllByRecursion (IsOutside addr) (changed_windows setup bytes change) → AllByRecursion (IsOutside addr) windows)
moved_within setup bytes new change [] rows moved = (tt, omega arith, λ addr out. tt)
moved_within setup bytes new change (window ∷ []) rows moved =
    let within = moved.each.0 in
    let begin = begins setup bytes change rows in
    let edges = edges_of setup new in
    let few = rows_rise (window ∷ []) edges (within.0, tt, tt) in
    let fewer = filter_more (is_inside (window ∷ [])) (is_inside (from_to 0 0x7F7F_FFFF ∷ begin.0)) edges
    (λ edge. inside_rows window begin.0 edge within) in (
      (within.0, tt, tt),
      rw begin.1 (omega (arith, few, fewer, count_some (from_to 0 0x7F7F_FFFF) begin.0)),
      λ addr out. (past_rows addr window within (rw begin.1 at out).0, tt),
    )
moved_within setup bytes new change (window ∷ other ∷ later) rows moved = absurd (omega (arith, moved.one))

-- ---- one row after the other, as the code takes them

-- an address outside of what lies between the boundaries of a row, which no earlier row hides and which lies below the
-- top
pub stays_on : (old new : List ℕ) (addr row first hidden end top : ℕ) → first ≡ min (slice_index old row)
    (slice_index new row) → end ≡ max (slice_index old row) (slice_index new row) → slice_index old 7 ≤ top →
    is_below old addr 7 ≡ true → ((addr < max first hidden * 0x80_0000) ⊎ (min end top * 0x80_0000 ≤ addr)) →
    (addr < hidden * 0x80_0000 → IsHidden old new addr row) → StaysOrHidden old new addr row
stays_on old new addr row first hidden end top first_is end_is high below out hides = grind (arith, nat_tests, hides)

-- the addresses that the rows so far hide, and those that one more hides
pub hides_on : (old new : List ℕ) (addr row first hidden : ℕ) → first ≡ min (slice_index old row)
    (slice_index new row) → (addr < hidden * 0x80_0000 → IsHidden old new addr row) →
    addr < max hidden first * 0x80_0000 → IsHidden old new addr (row + 1)
hides_on old new addr row first hidden first_is hides low =
    elim (cases_lt addr (hidden * 0x80_0000)) [
      | inl is ↦
          let found = hides is in
          let before : found.earlier < row + 1 = omega (arith, found.before) in
          record { earlier = found.earlier; before = before; old_below = found.old_below; new_below = found.new_below }
      | inr not ↦
          let was : is_below old addr row ≡ true = grind (arith, nat_tests) in
          record { earlier = row; before = omega arith; old_below = was; new_below = grind (arith, nat_tests) }
    ]
