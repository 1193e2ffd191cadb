-- The flat map answers at each address as the decode of the registers does.
use Rattle.std.proofs.Common.{◌≡◌, ◌≤◌, ◌<◌, ◌+◌, ◌∷◌, [], ℕ, zero, suc, Bool, List, Some, slice_get, ap, sym, ◌∙◌}
use Rattle.std.proofs.Common.{arith, All, inl, inr, refl}
use Rattle.board_prelude.proofs.{cases_lt, nat_tests}
use Rattle.board_base.specs.declared.access.Kind.{Kind}
use Rattle.board_spec.specs.Setup.{Setup}
use Rattle.board_spec.specs.Decode.{Bytes, area_of}
use Rattle.board_spec.specs.FlatMap.{MapRange, IsFlatMapOf, address_count, six_areas, IsRight, Tiles}
use Rattle.board_spec.proofs.FlatMapLaws.{one_flat_map}
use Rattle.promises.specs.Definitions.{column, IsAnsweredBy, AnswersAsDecode}

in_row : (setup : Setup) (bytes : Bytes) (addr : ℕ) (kind : Kind) (smm : Bool) →
    slice_get (six_areas setup bytes addr) (column kind smm) ≡ Some (area_of setup bytes addr kind smm)
in_row setup bytes addr kind smm = grind (arith, nat_tests)

module _ (setup : Setup) (bytes : Bytes) (addr : ℕ) where
  here : (range : MapRange) (later : List MapRange) → IsRight setup bytes range → range.lo ≤ addr → addr ≤ range.hi →
      IsAnsweredBy setup bytes (range ∷ later) addr
  here range later right above below = record {
    before = [];
    range = range;
    later = later;
    within = refl;
    above = above;
    below = below;
    says = λ kind smm.
        ap (λ row. slice_get row (column kind smm)) (sym (right.at_each addr above below))
        ∙ in_row setup bytes addr kind smm;
  }

  after_one : (first : MapRange) (ranges : List MapRange) → IsAnsweredBy setup bytes ranges addr →
      IsAnsweredBy setup bytes (first ∷ ranges) addr
  after_one first ranges is = record {
    before = first ∷ is.before;
    range = is.range;
    later = is.later;
    within = ap (λ rest. first ∷ rest) is.within;
    above = is.above;
    below = is.below;
    says = is.says;
  }

  found : (from : ℕ) (ranges : List MapRange) → Tiles from ranges → All (IsRight setup bytes) ranges → from ≤ addr →
      addr < address_count → IsAnsweredBy setup bytes ranges addr
  found from [] tiles all least most = absurd (omega arith)
  found from (range ∷ later) tiles all least most =
      elim (cases_lt range.hi addr) [
        | inl beyond ↦ after_one range later
            (found (range.hi + 1) later tiles.2 (λ i d within. all (suc i) d (omega arith)) (omega arith) most)
        | inr within ↦ here range later (all zero range (omega arith)) (omega arith) within
      ]

pub answers_as_decode : (setup : Setup) (bytes : Bytes) (ranges : List MapRange) → IsFlatMapOf setup bytes ranges →
    AnswersAsDecode setup bytes ranges
answers_as_decode setup bytes ranges map = record {
  each = λ addr most. found setup bytes addr 0 ranges map.tiles map.right (omega arith) most;
  only = λ other is. one_flat_map setup bytes ranges other map is;
}
