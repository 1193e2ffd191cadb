-- A text is cut at the ends of its lines.
use Rattle.std.specs.Prelude.{ℕ, ◌≡◌, ◌-◌, ◌≤◌, List, [], ◌∷◌, take, drop, length, slice_index_or}

-- the parts of a text that end at these places, the first of which starts at `start`
abbrev pub cut_at : (start : ℕ) (ends text : List ℕ) → List (List ℕ)
cut_at start [] text = []
cut_at start (end ∷ ends) text = take (end - start) (drop start text) ∷ cut_at end ends text

-- the ends rise from `start` on, and the last is that of the text
abbrev pub AreEnds : (start : ℕ) (ends : List ℕ) (size : ℕ) → Type 0
AreEnds start [] size = start ≡ size
AreEnds start (end ∷ ends) size = (start ≤ end) × AreEnds end ends size

-- part i of a text stands between these places
pub record IsPart (start : ℕ) (ends text : List ℕ) (i from to : ℕ) : Type 0 where
  pub rises : from ≤ to
  pub within : to ≤ length text
  pub part : slice_index_or (cut_at start ends text) i [] ≡ take (to - from) (drop from text)
