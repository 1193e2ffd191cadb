-- The ranges of a map by their indices, and the span round an address.
use Rattle.std.proofs.Common.{◌≡◌, ◌≢◌, ℕ, zero, suc, ◌+◌, ◌-◌, ◌<◌, ◌≤◌, ◌⊎◌, inl, inr, Bool, List, [], ◌∷◌, length}
use Rattle.std.proofs.Common.{map, sym, ◌∙◌, ap, arith}
use Rattle.board_prelude.proofs.{cases_lt, get_or-map, length-map, nat_tests, Kind, Setup, Bytes, area_of}
use Rattle.board_prelude.proofs.{address_count, six_areas, Tiles, IsFlatMapOf, IsSpan}
use Rattle.map_builder.specs.declared.range.Range.{Range}
use Rattle.map_builder.specs.Ranges.{range_of}
use Rattle.map_builder.specs.Find.{no_range, range_at, in_column, area_at, Holds, IsFirstAlike, IsLastAlike}

-- ---- ranges that tile, by their indices

whole_at : (from : ℕ) (ranges : List Range) → Tiles from (map range_of ranges) → (k : ℕ) → k < length ranges →
    (range_at ranges k).lo ≤ (range_at ranges k).hi
whole_at from [] tiles k within = absurd (omega arith)
whole_at from (range ∷ later) tiles zero within = tiles.1
whole_at from (range ∷ later) tiles (suc k) within = whole_at (range.hi + 1) later tiles.2 k (omega arith)

next_at : (from : ℕ) (ranges : List Range) → Tiles from (map range_of ranges) → (k : ℕ) → suc k < length ranges →
    (range_at ranges (suc k)).lo ≡ (range_at ranges k).hi + 1
next_at from (range ∷ next ∷ later) tiles zero within = tiles.2.0
next_at from (range ∷ next ∷ later) tiles (suc k) within = next_at (range.hi + 1) (next ∷ later) tiles.2 k (omega arith)
next_at from _ tiles k within = absurd (omega arith)

last_at : (from : ℕ) (ranges : List Range) → Tiles from (map range_of ranges) → (k : ℕ) → suc k ≡ length ranges →
    (range_at ranges k).hi + 1 ≡ address_count
last_at from (range ∷ []) tiles zero is = tiles.2
last_at from (range ∷ later) tiles (suc k) is = last_at (range.hi + 1) later tiles.2 k (omega arith)
last_at from _ tiles k is = absurd (omega arith)

pub record Placed (from : ℕ) (ranges : List Range) : Type 0 where
  pub some : 0 < length ranges
  pub first : (range_at ranges 0).lo ≡ from
  pub whole : (k : ℕ) → k < length ranges → (range_at ranges k).lo ≤ (range_at ranges k).hi
  pub next : (k : ℕ) → k + 1 < length ranges → (range_at ranges (k + 1)).lo ≡ (range_at ranges k).hi + 1
  pub last : (k : ℕ) → k + 1 ≡ length ranges → (range_at ranges k).hi + 1 ≡ address_count

pub placed : (from : ℕ) (ranges : List Range) → from < address_count → Tiles from (map range_of ranges) →
    Placed from ranges
placed from [] below tiles = absurd (omega arith)
placed from (range ∷ later) below tiles = record {
  some = omega arith;
  first = tiles.0;
  whole = whole_at from (range ∷ later) tiles;
  next = λ k within.
      let place : k + 1 ≡ suc k = omega arith in rw place (next_at from (range ∷ later) tiles k (omega arith));
  last = λ k is. last_at from (range ∷ later) tiles k (omega arith);
}

-- ---- the search for an address

-- an address lies in one of `left` ranges from an index on
pub record IsSearched (ranges : List Range) (addr index left : ℕ) : Type 0 where
  pub some : 1 ≤ left
  pub within : index + left ≤ length ranges
  pub above : (range_at ranges index).lo ≤ addr
  pub below : addr ≤ (range_at ranges (index + left - 1)).hi

module _ (ranges : List Range) (tiles : Tiles 0 (map range_of ranges)) where
  is : Placed 0 ranges
  is = placed 0 ranges (omega arith) tiles

  rises : (gap k n : ℕ) → k + gap ≡ n → n < length ranges →
      ((range_at ranges k).lo ≤ (range_at ranges n).lo) × ((range_at ranges k).hi ≤ (range_at ranges n).hi)
  rises zero k n distance within = let same : k ≡ n = omega arith in rw same (omega arith, omega arith)
  rises (suc gap) k n distance within = grind (arith, nat_tests, is.whole, is.next, rises gap (k + 1) n)

  -- each address from the first of one range up to the last of another lies in one of the ranges between them
  held_between : (addr gap first last : ℕ) → first + gap ≡ last → last < length ranges →
      (range_at ranges first).lo ≤ addr → addr ≤ (range_at ranges last).hi →
      (k : ℕ) × (first ≤ k) × (k ≤ last) × Holds ranges k addr
  held_between addr zero first last distance within above below =
      let same : last ≡ first = omega arith in
      let high = rw same at below in
      (first, omega arith, omega arith, omega arith)
  held_between addr (suc gap) first last distance within above below =
      elim (cases_lt (range_at ranges first).hi addr) [
        | inr here ↦ (first, omega arith, omega arith, omega arith)
        | inl beyond ↦
            let rest = held_between addr gap (first + 1) last (omega arith) within
            (omega (arith, is.next first (omega arith))) below in
            (rest.0, omega (arith, rest.1), rest.2, rest.3)
      ]

  module _ (addr index left : ℕ) where
    pub search_taken : (half : ℕ) → half < left → IsSearched ranges addr index left →
        (range_at ranges (index + half)).lo ≤ addr → IsSearched ranges addr (index + half) (left - half)
    search_taken half fewer searched above = grind (arith, nat_tests)

    pub search_left : (half : ℕ) → 1 ≤ half → half + half ≤ left → left ≤ half + half + 1 →
        IsSearched ranges addr index left → addr < (range_at ranges (index + half)).lo →
        IsSearched ranges addr index (left - half)
    search_left half some at_least at_most searched below =
        let within = searched.within in
        let place : index + half - 1 + 1 ≡ index + half = omega arith in
        let next = rw place at (is.next (index + half - 1) (omega arith)) in
        let higher = rises (left - half - half) (index + half - 1) (index + (left - half) - 1) (omega arith) in
        let high = (higher (omega arith)).1 in
        omega arith

  pub search_begins : (addr : ℕ) → addr < address_count → IsSearched ranges addr 0 (length ranges)
  search_begins addr address = grind (arith, nat_tests, is)

-- ---- the span round an address

module _ (setup : Setup) (bytes : Bytes) (ranges : List Range) (column : ℕ) (kind : Kind) (smm : Bool)
    (is_map : IsFlatMapOf setup bytes (map range_of ranges))
    (column_is : (addr : ℕ) → in_column column (six_areas setup bytes addr) ≡ area_of setup bytes addr kind smm) where
  area_held : (k addr : ℕ) → Holds ranges k addr → area_of setup bytes addr kind smm ≡ area_at ranges column k
  area_held k addr holds =
      let right = rw (get_or-map range_of ranges k no_range (range_of no_range) holds.within) at
      (is_map.right k (range_of no_range) (rw (length-map ranges range_of) holds.within)) in
      sym (column_is addr) ∙ ap (in_column column) (right.at_each addr holds.above holds.below)

  module _ (index first last addr : ℕ) (holds : Holds ranges index addr)
      (is_first : IsFirstAlike ranges column index first) (is_last : IsLastAlike ranges column index last) where
    at : Placed 0 ranges
    at = placed 0 ranges (omega arith) is_map.tiles

    begins_at : (k : ℕ) → (k ≡ 0) ⊎ (area_at ranges column (k - 1) ≢ area_at ranges column index) → k < length ranges →
        ((range_at ranges k).lo ≡ 0)
        ⊎ (area_of setup bytes ((range_at ranges k).lo - 1) kind smm ≢ area_at ranges column index)
    begins_at k begins within =
        let next : 0 < k → (range_at ranges k).lo ≡ (range_at ranges (k - 1)).hi + 1 =
        λ some. let place : k - 1 + 1 ≡ k = omega arith in rw place at (at.next (k - 1) (omega arith)) in
        grind (arith, next, at.first, at.whole (k - 1), area_held (k - 1) ((range_at ranges k).lo - 1))

    ends_at : (last + 1 ≡ length ranges) ⊎ (area_at ranges column (last + 1) ≢ area_at ranges column index) →
        ((range_at ranges last).hi + 1 ≡ address_count)
        ⊎ (area_of setup bytes ((range_at ranges last).hi + 1) kind smm ≢ area_at ranges column index)
    ends_at ends =
        let beyond = area_held (last + 1) ((range_at ranges last).hi + 1) in
        grind (arith, nat_tests, at.last last, at.next last, at.whole (last + 1), beyond)

    pub is_span : IsSpan setup bytes addr kind smm (range_at ranges first).lo (range_at ranges last).hi
        (area_at ranges column index)
    is_span =
        let below = is_first.below in
        let above = is_last.above in
        let within = is_last.within in
        let low = rises ranges is_map.tiles (index - first) first index (omega arith) holds.within in
        let high = rises ranges is_map.tiles (last - index) index last (omega arith) within in
        let end : ℕ = length ranges - 1 in
        let to_end = rises ranges is_map.tiles (end - last) last end (omega arith) (omega arith) in
        record {
          above = omega (arith, low.0, holds.above);
          below = omega (arith, high.1, holds.below);
          last = omega (arith, to_end.1, at.last end (omega arith));
          same = λ x from to.
              let there = held_between ranges is_map.tiles x (last - first) first last (omega arith) within from to in
              area_held there.0 x there.3
              ∙ grind (arith, nat_tests, is_first.alike there.0, is_last.alike there.0, there.1, there.2);
          begins = begins_at first is_first.begins (omega arith);
          ends = ends_at is_last.ends;
        }
