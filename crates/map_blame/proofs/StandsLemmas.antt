-- Whether a range stands in a map, by the range of the map that holds its first address.
use Rattle.std.proofs.Common.{◌≡◌, ◌≢◌, ℕ, ◌+◌, ◌<◌, ◌≤◌, List, map, sym, ◌∙◌, arith}
use Rattle.board_prelude.proofs.{get_or-map, length-map, Setup, Bytes, six_areas, IsRight, IsFlatMapOf}
use Rattle.map_builder.specs.declared.range.Range.{Range}
use Rattle.map_builder.specs.Ranges.{range_of}
use Rattle.map_builder.specs.Find.{no_range, range_at, Holds}
use Rattle.map_builder.proofs.FindLemmas.{Placed, placed}
use Rattle.map_builder.proofs.RebuildLemmas.{row_at, differ_at}
use Rattle.map_blame.specs.Watch.{IsInterval}

module _ (setup : Setup) (bytes : Bytes) (ranges : List Range) (is_map : IsFlatMapOf setup bytes (map range_of ranges))
  where
    is_placed : Placed 0 ranges
    is_placed = placed 0 ranges (omega arith) is_map.tiles

    areas_held : (k addr : ℕ) → Holds ranges k addr → six_areas setup bytes addr ≡ row_at ranges k
    areas_held k addr holds =
        let right = rw (get_or-map range_of ranges k no_range (range_of no_range) holds.within)
        at (is_map.right k (range_of no_range) (omega (arith, length-map ranges range_of, holds.within))) in
        right.at_each addr holds.above holds.below

    module _ (range : Range) (is : IsInterval range) (k : ℕ) (holds : Holds ranges k range.lo) where
      pub all_right : row_at ranges k ≡ range.row.areas → range.hi ≤ (range_at ranges k).hi →
          IsRight setup bytes (range_of range)
      all_right same ends = record { at_each = λ addr low high. areas_held k addr (omega arith) ∙ same }

      first_same : IsRight setup bytes (range_of range) → row_at ranges k ≡ range.row.areas
      first_same right = sym (areas_held k range.lo holds) ∙ right.at_each range.lo (omega arith) is.order

      pub other_row : row_at ranges k ≢ range.row.areas → IsRight setup bytes (range_of range) → ⊥
      other_row other right = other (first_same right)

      pub ends_below : (range_at ranges k).hi < range.hi → IsRight setup bytes (range_of range) → ⊥
      ends_below ends right =
          let next : ℕ = (range_at ranges k).hi + 1 in
          let held = areas_held (k + 1) next in
          let differ = differ_at ranges k is_map.least in
          let first = first_same right in
          let at = right.at_each next in
          grind (arith, is_placed.last k, is_placed.next k, is_placed.whole (k + 1), differ, held, first, at)
