-- A text leaves a kind of texts at one line.
use Rattle.board_prelude.proofs.{nat_tests, common_steps, ne_eqb, eqb-false, flat_map-append, All-nil, All-cons}
use Rattle.board_prelude.proofs.{All-head, All-tail, line_feed}
use Rattle.std.proofs.Common.{arith, ℕ, ◌≡◌, ◌≢◌, ◌⊎◌, true, List, [], ◌∷◌, ◌++◌, All, refl, sym, ap, ◌∙◌, inl, inr}
use Rattle.std.proofs.Common.{append_assoc}
use Rattle.script_spec.specs.Lines.{text_of_lines, IsOneLine}
use Rattle.script_spec.specs.Checks.{AreBegun, LeavesAt, IsSomeLog, IsLogOf}
use Rattle.script_spec.specs.Laws.{OneBadLog, OneDifference}
use Rattle.script_spec.specs.Cuts.{cut}
use Rattle.std.proofs.lemmas.Option.{some_pair_parts}
use Rattle.script_spec.proofs.Digits.{lacks, lacks-first, lacks-later, cut_field}

pub lacks-line : (line : List ℕ) → IsOneLine line → lacks line_feed line ≡ true
lacks-line [] each = refl
lacks-line (c ∷ cs) each =
    grind (arith, nat_tests, ne_eqb, All-head, All-tail, lacks-line cs (All-tail (λ byte. byte ≢ line_feed) c cs each))

pub one_line : (line : List ℕ) → lacks line_feed line ≡ true → IsOneLine line
one_line line lack = grind (arith, nat_tests, common_steps, All-nil, All-cons, eqb-false, lacks-first, lacks-later)

-- lines go on as other lines do
pub record GoesOn (lines : List (List ℕ)) (rest : List ℕ) (others : List (List ℕ)) (after : List ℕ) : Type 0 where
  pub this : List ℕ
  pub more : List (List ℕ)
  pub is : others ≡ lines ++ this ∷ more
  pub one : IsOneLine this
  pub whole : rest ≡ this ++ line_feed ∷ (text_of_lines more ++ after)

abbrev pub Compared : List (List ℕ) → List ℕ → List (List ℕ) → List ℕ → Type 0
Compared lines rest others after = (lines ≡ others) ⊎ GoesOn lines rest others after ⊎ GoesOn others after lines rest

compared_more : (line : List ℕ) (lines : List (List ℕ)) (rest : List ℕ) (others : List (List ℕ)) (after : List ℕ) →
    Compared lines rest others after → Compared (line ∷ lines) rest (line ∷ others) after
compared_more line lines rest others after given = grind (arith, nat_tests)

line_parts : (line text rest : List ℕ) → (line ++ line_feed ∷ []) ++ text ++ rest ≡ line ++ line_feed ∷ (text ++ rest)
line_parts line text rest = simp append_assoc

pub compared : (lines : List (List ℕ)) (rest : List ℕ) (others : List (List ℕ)) (after : List ℕ) → All IsOneLine lines →
    All IsOneLine others → text_of_lines lines ++ rest ≡ text_of_lines others ++ after →
    Compared lines rest others after
compared [] rest [] after each all same = inl refl
compared [] rest (line ∷ others) after each all same =
    let text = same ∙ line_parts line (text_of_lines others) after in
    inr (inl (record { this = line; more = others; is = refl; one = All-head IsOneLine line others all; whole = text }))
compared (line ∷ lines) rest [] after each all same =
    let text = sym same ∙ line_parts line (text_of_lines lines) rest in
    inr (inr (record { this = line; more = lines; is = refl; one = All-head IsOneLine line lines each; whole = text }))
compared (line ∷ lines) rest (other ∷ others) after each all same =
    let text = rw (line_parts line (text_of_lines lines) rest, line_parts other (text_of_lines others) after) at same in
    let lack = lacks-line line (All-head IsOneLine line lines each) in
    let lacking = lacks-line other (All-head IsOneLine other others all) in
    let parts = some_pair_parts _ _ _ _ (sym (cut_field line_feed line _ lack) ∙ ap (cut line_feed) text
    ∙ cut_field line_feed other _ lacking) in
    rw parts.0 (compared_more other lines rest others after (compared lines rest others after
    (All-tail IsOneLine line lines each) (All-tail IsOneLine other others all) parts.1))

module _ (IsText : List ℕ → Type 0) where
  -- where longer lines begin a text, so do their first ones
  begun_front : (lines : List (List ℕ)) (this : List ℕ) (more : List (List ℕ))
      → AreBegun IsText (lines ++ this ∷ more) → AreBegun IsText (lines ++ this ∷ [])
  begun_front lines this more begun =
      let cut = append_assoc lines (this ∷ []) more in
      let join = append_assoc (text_of_lines (lines ++ this ∷ [])) (text_of_lines more) begun.later in
      record { later = text_of_lines more ++ begun.later; text = rw (← cut, flat_map-append, join) at begun.text }

  not_longer : (bytes : List ℕ) (line place : ℕ) (one : LeavesAt IsText bytes line) (two : LeavesAt IsText bytes place)
      → GoesOn one.before one.rest two.before two.rest → ⊥
  not_longer bytes line place one two on = grind (arith, nat_tests, begun_front)

  one_leaving : (bytes : List ℕ) (line place : ℕ) → LeavesAt IsText bytes line → LeavesAt IsText bytes place
      → line ≡ place
  one_leaving bytes line place one two =
      let both = compared one.before one.rest two.before two.rest one.each two.each (sym one.cut ∙ two.cut) in
      let up = not_longer bytes line place one two in
      let down = not_longer bytes place line two one in
      grind (arith, nat_tests, one.place, two.place)

pub one_bad_log : OneBadLog
one_bad_log = one_leaving IsSomeLog

pub one_difference : OneDifference
one_difference setup version phases = one_leaving (IsLogOf setup version phases)
