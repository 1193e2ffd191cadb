-- What stays of a map that differs in some windows alone: the ranges below them, between them and above them.
use Rattle.board_prelude.proofs.{nat_tests, common_steps, get_or-map, length-map, length-drop, drop_more, drop_all}
use Rattle.board_prelude.proofs.{append-nil, map-append, take_all, take_more, cases_lt}
use Rattle.board_base.specs.declared.target.Area.{Area}
use Rattle.board_spec.specs.Setup.{Setup}
use Rattle.board_spec.specs.Decode.{Bytes}
use Rattle.board_spec.specs.FlatMap.{address_count, MapRange, NeighboursDiffer, IsFlatMapOf, Tiles}
use Rattle.std.proofs.Common.{◌≡◌, ◌≢◌, ℕ, zero, suc, ◌+◌, ◌-◌, ◌<◌, ◌≤◌, inl, inr, List, [], ◌∷◌, ◌++◌, length, map}
use Rattle.std.proofs.Common.{take, drop, get_or, refl, sym, ap, subst, arith, ◌∙◌, append_assoc}
use Rattle.std.proofs.lemmas.List.{map_more, get_or-drop}
use Rattle.board_spec.proofs.FlatMapLaws.{tiles_below}
use Rattle.addr_decode.specs.MapRegs.{MapBytes, StandsFor}
use Rattle.map_builder.specs.declared.range.Changed.{Changed}
use Rattle.map_builder.specs.declared.range.Range.{Range}
use Rattle.map_builder.specs.Ranges.{range_of, ContinuesAt}
use Rattle.map_builder.specs.Find.{no_range, range_at, BeginsBelow, Holds}
use Rattle.map_builder.specs.Build.{IsBuilt, IsRightWhere, IsMapWhere, IsBelow, IsBetween, IsBeside, IsWhole}
use Rattle.map_builder.specs.Bounds.{from_to}
use Rattle.map_builder.specs.Sorted.{AreAbove, Rise, rows_in}
use Rattle.map_builder.specs.Map.{IsOfSomeBoard}
use Rattle.map_builder.proofs.BuildLemmas.{range, AreasAt, one_address, same_at_each, is_built_first, built_step}
use Rattle.map_builder.proofs.BuildLemmas.{built_over, built_range, is_whole}
use Rattle.map_builder.proofs.FindLemmas.{Placed, placed}

-- ---- ranges by their indices

abbrev pub row_at : List Range → ℕ → List Area
row_at ranges k = (range_at ranges k).row.areas

-- a range as the last of those built
abbrev pub open_at : List Range → ℕ → MapRange
open_at ranges k = range (range_at ranges k).lo 0xFFFF_FFFF (row_at ranges k)

pub differ_at : (ranges : List Range) (k : ℕ) → NeighboursDiffer (map range_of ranges) → k + 1 < length ranges →
    row_at ranges (k + 1) ≢ row_at ranges k
differ_at (here ∷ next ∷ later) zero differ within = λ same. differ.0 (sym same)
differ_at (here ∷ next ∷ later) (suc k) differ within =
    let place : suc k + 1 ≡ suc (k + 1) = omega arith in rw place (differ_at (next ∷ later) k differ.1 (omega arith))
differ_at _ k differ within = absurd (omega arith)

-- the last address of a range is an address
pub range_below : (from : ℕ) (ranges : List MapRange) → Tiles from ranges → (k : ℕ) (d : MapRange) → k < length ranges →
    (get_or ranges k d).hi < address_count
range_below from [] tiles k d within = absurd (omega arith)
range_below from (range ∷ later) tiles zero d within =
    let next : range.hi + 1 ≤ address_count = tiles_below (range.hi + 1) later tiles.2 in omega arith
range_below from (range ∷ later) tiles (suc k) d within = range_below (range.hi + 1) later tiles.2 k d (omega arith)

-- one more of the ranges from an index on
taken_more : (ranges : List Range) (n c : ℕ) → n + c < length ranges →
    map range_of (take (suc c) (drop n ranges))
    ≡ map range_of (take c (drop n ranges)) ++ range_of (range_at ranges (n + c)) ∷ []
taken_more ranges n c within =
    let more = map_more range_of (drop n ranges) c no_range in
    grind (arith, nat_tests, get_or-drop n ranges c no_range, more, length-drop n ranges)

-- a map that agrees at some addresses agrees at fewer
pub fewer_where : {regs : MapBytes} {Where Less : ℕ → Type 0} {ranges : List MapRange} →
    ((addr : ℕ) → Less addr → Where addr) → IsMapWhere regs Where ranges → IsMapWhere regs Less ranges
fewer_where less is = record {
  tiles = is.tiles;
  least = is.least;
  right = λ setup bytes stands k d within. record {
    at_each = λ addr low high there. (is.right setup bytes stands k d within).at_each addr low high (less addr there);
  };
}

pub right_at : {regs : MapBytes} {Where : ℕ → Type 0} (ranges : List Range) →
    IsMapWhere regs Where (map range_of ranges) → (setup : Setup) (bytes : Bytes) (k : ℕ) → StandsFor setup bytes regs →
    k < length ranges → IsRightWhere setup bytes Where (range_of (range_at ranges k))
right_at ranges is setup bytes k stands within =
    rw (get_or-map range_of ranges k no_range (range_of no_range) within)
    at (is.right setup bytes stands k (range_of no_range) (omega (arith, length-map ranges range_of)))

-- ---- ranges that are right after an address, up to another

module _ {regs : MapBytes} (after until : ℕ) (address : until < address_count) (old : List Range)
    (agrees : IsMapWhere regs (IsBetween after until) (map range_of old)) where
  is : Placed 0 old
  is = placed 0 old (omega arith) agrees.tiles

  -- on through a range, from an address in it on
  pub kept_on : {ranges ranges' : List MapRange} {last last' : MapRange} {k lo addr hi : ℕ} → Holds old k lo →
      lo ≡ addr + 1 → after ≤ addr → lo ≤ hi → hi ≤ until → hi ≤ (range_at old k).hi →
      ContinuesAt ranges ranges' last last' lo (row_at old k) → IsBuilt regs ranges last addr →
      IsBuilt regs ranges' last' hi
  kept_on {k = k} {lo = lo} holds joined from order within high on built =
      built_range lo _ joined order (omega arith)
      (λ x from_x to_x setup bytes stands.
      sym ((right_at _ agrees _ _ k stands holds.within).at_each x (omega arith) (omega arith) (omega arith))) on built

  -- the next range follows one that was built to its end
  next_kept : (k : ℕ) {hi : ℕ} {ranges : List MapRange} {last : MapRange} → Holds old (k + 1) hi → hi ≤ until →
      after ≤ (range_at old k).hi → last.areas ≡ row_at old k → IsBuilt regs ranges last (range_at old k).hi →
      IsBuilt regs (ranges ++ range last.lo (range_at old k).hi last.areas ∷ []) (open_at old (k + 1)) hi
  next_kept k holds within from same built =
      let next = is.next k holds.within in
      let whole = is.whole (k + 1) holds.within in
      let end : (range_at old k).hi ≡ (range_at old (k + 1)).lo - 1 = omega arith in
      kept_on (omega arith) next from holds.above within holds.below
      (inr ((λ alike. differ_at old k agrees.least holds.within (alike ∙ same)), rw end refl, refl)) built

  -- each later range ends later
  ends_after : (c k n : ℕ) → k + c ≡ n → n < length old → (range_at old k).hi ≤ (range_at old n).hi
  ends_after zero k n at within = let same : k ≡ n = omega arith in rw same (omega arith)
  ends_after (suc c) k n at within = grind (arith, nat_tests, is.whole, is.next, ends_after c (k + 1) n)

  -- and so do some ranges and one more
  pub copied : (k : ℕ) {ranges : List MapRange} {last : MapRange} (c hi : ℕ) → Holds old (k + c + 1) hi → hi ≤ until →
      after ≤ (range_at old k).hi → last.areas ≡ row_at old k → IsBuilt regs ranges last (range_at old k).hi →
      IsBuilt regs ((ranges ++ range last.lo (range_at old k).hi last.areas ∷ [])
      ++ map range_of (take c (drop (k + 1) old))) (open_at old (k + c + 1)) hi
  copied k {ranges} {last} zero hi holds within from same built =
      let place : k + 0 ≡ k = omega arith in
      rw (place, append-nil (ranges ++ range last.lo (range_at old k).hi last.areas ∷ []))
      (next_kept k (rw place at holds) within from same built)
  copied k {ranges} {last} (suc c) hi holds within from same built =
      let place : k + suc c ≡ k + c + 1 = omega arith in
      let there = rw place at holds in
      let next = is.next (k + c + 1) there.within in
      let whole = is.whole (k + c + 1) (omega arith) in
      let later = ends_after (c + 1) k (k + c + 1) (omega arith) (omega arith) in
      let front : List MapRange = ranges ++ range last.lo (range_at old k).hi last.areas ∷ [] in
      let inner = copied k c (range_at old (k + c + 1)).hi (omega arith) (omega arith) from same built in
      let swapped : k + 1 + c ≡ k + c + 1 = omega arith in
      rw (place, taken_more old (k + 1) c (omega arith), swapped, ← append_assoc front _ _)
      (next_kept (k + c + 1) there within (omega arith) refl inner)

-- ---- below the first window

-- the ranges before the one that holds an address, and that one as the last, are built up to the address
built_below : {regs : MapBytes} (lo : ℕ) (address : lo < address_count) (old : List Range) →
    IsMapWhere regs (IsBelow lo) (map range_of old) → (k addr : ℕ) → Holds old k addr → addr < lo →
    IsBuilt regs (map range_of (take k old)) (open_at old k) addr
built_below {regs} lo address old agrees zero addr holds outer =
    let first = (placed 0 old (omega arith) agrees.tiles).first in
    let right : (x : ℕ) → 0 ≤ x → x ≤ addr → AreasAt regs x (row_at old 0) = λ x low to setup bytes stands.
    sym ((right_at old agrees setup bytes 0 stands holds.within).at_each x (omega arith) (omega arith) (omega arith)) in
    rw first
    (built_over (omega arith) (same_at_each regs 0 addr (row_at old 0) (omega arith) right)
    (is_built_first (row_at old 0) (right 0 (omega arith) (omega arith))))
built_below lo address old agrees (suc k) addr holds outer =
    let place : suc k ≡ k + 1 = omega arith in
    let there = rw place at holds in
    let is = placed 0 old (omega arith) agrees.tiles in
    let next = is.next k there.within in
    let whole = is.whole k (omega arith) in
    rw (place, map_more range_of old k no_range (omega arith))
    (next_kept 0 (lo - 1) (omega arith) old (fewer_where (λ x between. omega arith) agrees) k there (omega arith)
    (omega arith) refl (built_below lo address old agrees k (range_at old k).hi (omega arith) (omega arith)))

-- and go on at the first address of the interval
pub built_to_interval : {regs : MapBytes} (lo : ℕ) → lo < address_count → (old : List Range) →
    IsMapWhere regs (IsBelow lo) (map range_of old) → (k : ℕ) {ranges' : List MapRange} {last' : MapRange}
    (areas : List Area) → Holds old k (lo - 1) → 0 < lo → AreasAt regs lo areas →
    ContinuesAt (map range_of (take k old)) ranges' (open_at old k) last' lo areas → IsBuilt regs ranges' last' lo
built_to_interval {regs} lo address old agrees k areas holds above at_lo on =
    built_step areas (omega arith) address (one_address regs (lo - 1) lo (omega arith)) at_lo on
    (built_below lo address old agrees k (lo - 1) holds (omega arith))

-- ---- between windows

-- where the range at an index ends below an address, the next begins at it or below it
pub begins_next : {ranges : List Range} {k addr : ℕ} → Placed 0 ranges → BeginsBelow ranges k addr →
    (range_at ranges k).hi < addr → addr < address_count → BeginsBelow ranges (k + 1) addr
begins_next {ranges} {k} is begins low address = grind (arith, nat_tests)

-- ---- windows one after the other

-- addresses below windows that rise lie outside them
pub below_all : (addr high : ℕ) (windows : List Changed) → addr ≤ high → AreAbove high windows → IsBeside windows addr
below_all addr high [] low above = tt
below_all addr high (window ∷ later) low above = (inl (omega (arith, above.0)), below_all addr high later low above.1)

pub below_first : (addr : ℕ) (window : Changed) (later : List Changed) → Rise (window ∷ later) → addr < window.lo →
    IsBeside (window ∷ later) addr
below_first addr window later rise low = (inl low, below_all addr window.hi later (omega (arith, rise.0)) rise.1)

-- after an address, and outside of the windows that are left
abbrev pub IsLeft : ℕ → List Changed → ℕ → Type 0
IsLeft hi windows addr = (hi < addr) × IsBeside windows addr

pub record Sweep (regs : MapBytes) (ranges : List MapRange) (last : MapRange) (old : List MapRange) (hi : ℕ)
    (windows : List Changed) : Type 0 where
  pub fits : hi < address_count
  pub built : IsBuilt regs ranges last hi
  pub rise : Rise windows
  pub above : AreAbove hi windows
  pub left : IsMapWhere regs (IsLeft hi windows) old

-- without windows they are the map
pub all_right : (regs : MapBytes) (ranges : List MapRange) → IsMapWhere regs (IsBeside []) ranges →
    (setup : Setup) (bytes : Bytes) → StandsFor setup bytes regs → IsFlatMapOf setup bytes ranges
all_right regs ranges is setup bytes stands = record {
  tiles = is.tiles;
  right = λ k d within. record {
    at_each = λ addr low high. (is.right setup bytes stands k d within).at_each addr low high tt;
  };
  least = is.least;
}

-- ---- the windows by their indices

abbrev pub window_at : List Changed → ℕ → Changed
window_at windows k = get_or windows k (from_to 0 0)

pub first_below : {regs : MapBytes} {ranges : List MapRange} (windows : List Changed) → 0 < length windows →
    Rise windows → IsMapWhere regs (IsBeside windows) ranges → IsMapWhere regs (IsBelow (window_at windows 0).lo) ranges
first_below [] some rise beside = absurd (omega arith)
first_below (window ∷ later) some rise beside = fewer_where (λ addr low. below_first addr window later rise low) beside

pub order_at : (windows : List Changed) (k : ℕ) → k < length windows → Rise (drop k windows) →
    (window_at windows k).lo ≤ (window_at windows k).hi
order_at windows k within rise = (subst Rise (drop_more windows k (from_to 0 0) within) rise).0

pub sweep_first : {regs : MapBytes} {ranges before : List MapRange} {last : MapRange} (windows : List Changed) →
    0 < length windows → Rise windows → IsMapWhere regs (IsBeside windows) before →
    (window_at windows 0).hi < address_count → IsBuilt regs ranges last (window_at windows 0).hi →
    Sweep regs ranges last before (window_at windows 0).hi (drop 1 windows)
sweep_first [] some rise beside fits built = absurd (omega arith)
sweep_first {regs} {before = before} (window ∷ later) some rise beside fits built =
    let left : IsMapWhere regs (IsLeft window.hi later) before =
    fewer_where (λ addr beyond. (inr beyond.0, beyond.1)) beside in
    assumption

module _ {regs : MapBytes} {ranges before : List MapRange} {last : MapRange} {hi : ℕ} (windows : List Changed) (k : ℕ)
    (within : k < length windows) (sweep : Sweep regs ranges last before hi (drop k windows)) where
  now : Sweep regs ranges last before hi (window_at windows k ∷ drop (k + 1) windows)
  now = subst (Sweep regs ranges last before hi) (drop_more windows k (from_to 0 0) within) sweep

  pub above : hi < (window_at windows k).lo
  above = now.above.0

  -- up to the next window
  pub sweep_agrees : IsMapWhere regs (IsBetween hi ((window_at windows k).lo - 1)) before
  sweep_agrees = fewer_where
      (λ addr between.
      let beside = below_first addr (window_at windows k) (drop (k + 1) windows) now.rise (omega (arith, above)) in
      (between.0, beside)) now.left

  -- and after it
  pub sweep_next : {ranges' : List MapRange} {last' : MapRange} → (window_at windows k).hi < address_count →
      IsBuilt regs ranges' last' (window_at windows k).hi →
      Sweep regs ranges' last' before (window_at windows k).hi (drop (k + 1) windows)
  sweep_next fits built =
      let left : IsMapWhere regs (IsLeft (window_at windows k).hi (drop (k + 1) windows)) before =
      fewer_where (λ addr beyond. (omega (arith, above, now.rise.0), (inr beyond.0, beyond.1))) now.left in
      assumption now.rise

-- up to the last address
pub sweep_end : {regs : MapBytes} {ranges before : List MapRange} {last : MapRange} {hi : ℕ} (windows : List Changed)
    (k : ℕ) → length windows ≤ k → Sweep regs ranges last before hi (drop k windows) →
    IsMapWhere regs (IsBetween hi 0xFFFF_FFFF) before
sweep_end windows k past sweep =
    let none = rw (drop_all k windows past) at sweep in fewer_where (λ addr between. (between.0, tt)) none.left

pub ruleset sweep_steps = (nat_tests, common_steps, order_at, above)

-- the rows of the windows from one on
pub rows_at : (edges_above : ℕ → ℕ) (windows : List Changed) (k : ℕ) → k < length windows →
    rows_in edges_above (drop k windows)
    ≡ edges_above (window_at windows k).lo - edges_above (window_at windows k).hi + 1 + rows_in edges_above
    (drop (k + 1) windows)
rows_at edges_above windows k within = ap (rows_in edges_above) (drop_more windows k (from_to 0 0) within)

-- ---- the ranges between two addresses, and those that follow the last window, as they follow those that were built

-- the last range has the areas at which it went on
pub areas_on : {ranges ranges' : List MapRange} {last last' : MapRange} (addr : ℕ) {areas : List Area} →
    ContinuesAt ranges ranges' last last' addr areas → last'.areas ≡ areas
areas_on addr on = grind (arith, nat_tests)

-- the ranges from an index on are those before the last, and the last
taken_last : (ranges : List Range) (n end : ℕ) → n ≤ end → end + 1 ≡ length ranges →
    take (end - n) (drop n ranges) ++ range_at ranges end ∷ [] ≡ drop n ranges
taken_last ranges n end from last =
    let more = take_more (drop n ranges) (end - n) no_range in
    let all = take_all (end - n + 1) (drop n ranges) in
    grind (arith, nat_tests, get_or-drop n ranges (end - n) no_range, length-drop n ranges, more, all)

-- ---- from the address after the one up to which they are built

module _ {regs : MapBytes} (after until : ℕ) {k : ℕ} (ranges ranges' : List Range) {old : List Range}
    {last last' : Range} (address : until < address_count) (order : after < until)
    (agrees : IsMapWhere regs (IsBetween after until) (map range_of old)) (holds : Holds old k (after + 1))
    (on : ContinuesAt (map range_of ranges) (map range_of ranges') (range_of last) (range_of last') (after + 1)
    (row_at old k)) (built : IsBuilt regs (map range_of ranges) (range_of last) after) where
  -- in the range that holds it
  pub kept_first : (hi : ℕ) → after < hi → hi ≤ until → hi ≤ (range_at old k).hi →
      IsBuilt regs (map range_of ranges') (range_of last') hi
  kept_first hi above within high =
      kept_on after until address old agrees holds refl (omega arith) (omega arith) within high on built

  -- and on to a later range
  pub kept_later : (end : ℕ) → (range_at old k).hi ≤ until → k + 1 ≤ end → Holds old end until →
      IsBuilt regs (map range_of ((ranges' ++ record last' { hi = (range_at old k).hi } ∷ [])
      ++ take (end - (k + 1)) (drop (k + 1) old))) (open_at old end) until
  kept_later end more from there =
      let below = holds.below in
      let place : k + (end - (k + 1)) + 1 ≡ end = omega arith in
      rw (map-append, map-append)
      (rw place at (copied after until address old agrees k (end - (k + 1)) until (rw place there) (omega arith)
      (omega arith) (areas_on (after + 1) on)
      (kept_first (range_at old k).hi (omega arith) (omega arith) (omega arith))))

  -- to the last address
  pub whole_from : IsOfSomeBoard regs → until ≡ 0xFFFF_FFFF →
      IsWhole regs ((ranges' ++ record last' { hi = (range_at old k).hi } ∷ []) ++ drop (k + 1) old)
  whole_from board is_end =
      let is = placed 0 old (omega arith) agrees.tiles in
      let below = holds.below in
      let within = holds.within in
      elim (cases_lt (k + 1) (length old)) [
        | inr past ↦
            let end = is.last k (omega arith) in
            let first = kept_first 0xFFFF_FFFF (omega arith) (omega arith) (omega arith) in
            let open_end : (range_at old k).hi ≡ last'.hi = omega (arith, first.built.open_end) in
            rw (drop_all (k + 1) old past, append-nil, open_end) (is_whole board ranges' last' first)
        | inl more ↦
            let end : ℕ = length old - 1 in
            let last = is.last end (omega arith) in
            let last_hi : 0xFFFF_FFFF ≡ (range_at old end).hi = omega arith in
            let whole = is.whole end (omega arith) in
            let fits = rw (get_or-map range_of old k no_range (range_of no_range) within)
            at (range_below 0 (map range_of old) agrees.tiles k (range_of no_range)
            (omega (arith, length-map old range_of))) in
            let all : IsWhole regs (((ranges' ++ record last' { hi = (range_at old k).hi } ∷ [])
            ++ take (end - (k + 1)) (drop (k + 1) old)) ++ range_at old end ∷ []) =
            rw last_hi at (is_whole board _ (record (range_at old end) { hi = 0xFFFF_FFFF })
            (rw is_end at (kept_later end (omega arith) (omega arith) (omega arith)))) in
            rw (append_assoc _ _ (range_at old end ∷ []), taken_last old (k + 1) end (omega arith) (omega arith)) at all
      ]

pub rest_of : (old : List Range) (n : ℕ) → take (length old - n) (drop n old) ≡ drop n old
rest_of old n = take_all (length old - n) (drop n old) (omega (arith, length-drop n old))
