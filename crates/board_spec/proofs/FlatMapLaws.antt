-- Two flat maps of the same registers are one list, and every address has one span.
use Rattle.std.proofs.Common.{◌≡◌, ℕ, ◌+◌, ◌≤◌, List, [], ◌∷◌, refl, sym, ◌∙◌, subst, arith}
use Rattle.std.specs.List.{AllByRecursion}
use Rattle.board_spec.specs.Setup.{Setup}
use Rattle.board_spec.specs.Decode.{Bytes}
use Rattle.board_spec.specs.FlatMap.{address_count, six_areas, MapRange, Tiles, Differs, NeighboursDiffer, IsRight}
use Rattle.board_spec.specs.Laws.{OneFlatMap}
use Rattle.std.proofs.lemmas.List.Elements.{recursion_from_All}
use Rattle.std.proofs.lemmas.Bool.Decides.{nat_tests}

pub tiles_below : (from : ℕ) (ranges : List MapRange) → Tiles from ranges → from ≤ address_count
tiles_below from [] h = omega arith
tiles_below from (range ∷ later) h = omega (arith, h.0, h.1, tiles_below (range.hi + 1) later h.2)

module _ (setup : Setup) (bytes : Bytes) where
  abbrev AreRight : List MapRange → Type 0
  AreRight ranges = AllByRecursion (IsRight setup bytes) ranges

  -- the areas of a range are those of its first address
  first_areas : (from : ℕ) (x : MapRange) (xs : List MapRange) → Tiles from (x ∷ xs) → IsRight setup bytes x →
      six_areas setup bytes from ≡ x.areas
  first_areas from x xs tiles right = right.at_each from (omega (arith, tiles.0)) (omega (arith, tiles.0, tiles.1))

  -- a range that ends before another that begins at the same address has a next one with the other's areas
  ends_no_later : (from : ℕ) (x y : MapRange) (xs ys : List MapRange) → Tiles from (x ∷ xs) → Tiles from (y ∷ ys) →
      AreRight (x ∷ xs) → IsRight setup bytes y → Differs x xs → y.hi ≤ x.hi
  ends_no_later from x y xs ys tiles others right other differs = grind (arith, nat_tests, tiles_below, first_areas)

  one_tiling : (from : ℕ) (xs ys : List MapRange) → Tiles from xs → Tiles from ys → AreRight xs → AreRight ys →
      NeighboursDiffer xs → NeighboursDiffer ys → xs ≡ ys
  one_tiling from [] [] tx ty rx ry dx dy = refl
  one_tiling from [] (y ∷ ys) tx ty rx ry dx dy = absurd (omega (arith, ty.0, ty.1, tiles_below (y.hi + 1) ys ty.2))
  one_tiling from (x ∷ xs) [] tx ty rx ry dx dy = absurd (omega (arith, tx.0, tx.1, tiles_below (x.hi + 1) xs tx.2))
  one_tiling from (x ∷ xs) (y ∷ ys) tx ty rx ry dx dy =
      let sooner = ends_no_later from x y xs ys tx ty rx ry.0 dx.0 in
      let later = ends_no_later from y x ys xs ty tx ry rx.0 dy.0 in
      let ends : x.hi ≡ y.hi = omega arith in
      let areas = sym (first_areas from x xs tx rx.0) ∙ first_areas from y ys ty ry.0 in
      let head : x ≡ y = grind (arith, tx.0 ∙ sym ty.0) in
      let there : Tiles (x.hi + 1) ys = subst (λ (hi : ℕ). Tiles (hi + 1) ys) (sym ends) ty.2 in
      let tail : xs ≡ ys = one_tiling (x.hi + 1) xs ys tx.2 there rx.1 ry.1 dx.1 dy.1 in
      cc

pub one_flat_map : OneFlatMap
one_flat_map setup bytes xs ys mx my =
    one_tiling setup bytes 0 xs ys mx.tiles my.tiles
    (recursion_from_All (IsRight setup bytes) xs mx.right)
    (recursion_from_All (IsRight setup bytes) ys my.right)
    mx.least my.least
