-- Lines of a text, one after another.
use Rattle.board_prelude.proofs.{common_steps, take-append_seam, get_or-append_seam, take_more, map-append, line_feed}
use Rattle.board_prelude.proofs.{MapRange, range_text, map_text}
use Rattle.std.proofs.lemmas.Bool.Decides.{nat_tests}
use Rattle.std.proofs.Common.{◌≡◌, ℕ, ◌+◌, ◌-◌, ◌<◌, List, ◌∷◌, ◌++◌, [], take, length, get_or, append_assoc}
use Rattle.std.proofs.Common.{length-append, arith, flat_map, slice_index, map}
use Rattle.std.proofs.lemmas.List.{flat_map_more}
use Rattle.map_builder.specs.declared.range.Range.{Range}
use Rattle.map_builder.specs.Ranges.{range_of}

-- the line of the element at i makes the text one line longer
pub lines_more : {A : Type 0} (line_of : A → List ℕ) (elements : List A) (i : ℕ) (default : A) → i < length elements →
    (old text new : List ℕ) → text ≡ old ++ flat_map line_of (take i elements) →
    new ≡ text ++ line_of (get_or elements i default) → new ≡ old ++ flat_map line_of (take (i + 1) elements)
lines_more line_of elements i default inside old text new so_far added = grind (arith, nat_tests, common_steps)

-- the text of a line without its last character
pub last_gone : (old text new line : List ℕ) (size last : ℕ) → text ≡ old ++ (line ++ last ∷ []) → last < 128 →
    size ≡ length text → (0 < size → slice_index text (size - 1) < 128 → new ≡ take (size - 1) text) → new ≡ old ++ line
last_gone old text new line size last said ascii whole cut =
    let is : text ≡ (old ++ line) ++ last ∷ [] = cc (said, append_assoc old line (last ∷ [])) in
    grind (
      arith,
      nat_tests,
      length-append,
      get_or-append_seam (old ++ line) last [] 0,
      take-append_seam (old ++ line) (last ∷ []),
    )

abbrev line_of : MapRange → List ℕ
line_of range = range_text range ++ line_feed ∷ []

-- the line of the range at i makes the text of the map one range longer
pub map_text-more : (ranges : List Range) (i : ℕ) (default : Range) → i < length ranges → (old text new : List ℕ) →
    text ≡ old ++ map_text (map range_of (take i ranges)) → new ≡ text ++ line_of (range_of (get_or ranges i default)) →
    new ≡ old ++ map_text (map range_of (take (i + 1) ranges))
map_text-more ranges i default inside old text new so_far added =
    grind (arith, nat_tests, common_steps, take_more, map-append, flat_map_more)
