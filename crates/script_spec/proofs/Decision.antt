-- What a text says is found line by line: the items of a script, or the first bad line and the least reason.
use Rattle.board_prelude.proofs.{nat_tests, digits, lt-ltb, le-ltb, bytes_eq-Decides}
use Rattle.std.proofs.Common.{sym, ℕ, ◌≡◌, ◌⊎◌, ◌+◌, false, Option, Some, None, Result, Ok, Err, List, [], ◌∷◌, ◌++◌}
use Rattle.std.proofs.Common.{length, refl, ap, ◌∙◌, inl, inr, append-nil, arith, nat_lt, if◌then◌else◌, bytes_eq}
use Rattle.script_spec.specs.Lines.{lines_of}
use Rattle.script_spec.specs.Grammar.{Item, HasForm}
use Rattle.script_spec.specs.Items.{parse_line}
use Rattle.script_spec.specs.Reasons.{lacks_setup, least_reason}
use Rattle.script_spec.specs.ScriptText.{most_bytes, is_skipped, IsBadLine, AreRead, EndsBadly, IsVersion, first_line}
use Rattle.script_spec.specs.ScriptText.{BeginsBadly, IsBadLater, Script, IsScriptText}
use Rattle.script_spec.proofs.LineReading.{read_says, nothing_said}
use Rattle.script_spec.proofs.Chains.{same_head}
use Rattle.script_spec.proofs.ItemBack.{line_back}

-- ---- one line, after the items before it

abbrev pub judged_item : List Item → Item → Option ℕ → Result (List Item) ℕ
judged_item before item None = Ok (item ∷ before)
judged_item before item (Some why) = Err why

abbrev pub judged_form : List Item → Option Item → Result (List Item) ℕ
judged_form before None = Err 3
judged_form before (Some item) = judged_item before item (least_reason before item)

unfoldable pub judged_line : (version : ℕ) → List Item → List ℕ → Result (List Item) ℕ
judged_line version before line =
    if nat_lt most_bytes (length line) then Err 2 else
    if is_skipped line then Ok before else judged_form before (parse_line version line)

abbrev IsLine : (version : ℕ) → List Item → List ℕ → Result (List Item) ℕ → Type 0
IsLine version before line (Ok items) = AreRead version before (line ∷ []) items
IsLine version before line (Err why) = IsBadLine version before line why

line_is : (version : ℕ) (before : List Item) (line : List ℕ)
    → IsLine version before line (judged_line version before line)
unfolding judged_line
line_is version before line =
    grind (arith, nat_tests, lt-ltb, le-ltb, nothing_said version line, read_says version line)

-- ---- the lines after the first, of which the next has this number

abbrev goes_on : Result (List Item) ℕ → (number : ℕ) → (List Item → Result (List Item) (ℕ × ℕ))
    → Result (List Item) (ℕ × ℕ)
goes_on (Ok items) number later = later items
goes_on (Err why) number later = Err (number, why)

unfoldable pub judged_lines : (version : ℕ) → List Item → (number : ℕ) → List (List ℕ) → Result (List Item) (ℕ × ℕ)
judged_lines version before number [] = if lacks_setup before then Err (number, 6) else Ok before
judged_lines version before number (line ∷ later) =
    goes_on (judged_line version before line) number (λ items. judged_lines version items (number + 1) later)

record Stops (version : ℕ) (before : List Item) (lines : List (List ℕ)) (number : ℕ) (end : ℕ × ℕ) : Type 0 where
  good : List (List ℕ)
  rest : List (List ℕ)
  cut : lines ≡ good ++ rest
  items : List Item
  read : AreRead version before good items
  bad : EndsBadly version items rest end.1
  place : end.0 ≡ length good + number

abbrev AreLines : (version : ℕ) → List Item → List (List ℕ) → (number : ℕ) → Result (List Item) (ℕ × ℕ) → Type 0
AreLines version before lines number (Ok items) = AreRead version before lines items × (lacks_setup items ≡ false)
AreLines version before lines number (Err end) = Stops version before lines number end

later_are : (version number : ℕ) (line : List ℕ) (later : List (List ℕ)) (before items : List Item) →
    AreRead version before (line ∷ []) items → (result : Result (List Item) (ℕ × ℕ)) →
    AreLines version items later (number + 1) result → AreLines version before (line ∷ later) number result
later_are version number line later before items one (Ok ends) all = grind (arith, nat_tests)
later_are version number line later before items one (Err end) stops = record {
  good = line ∷ stops.good;
  rest = stops.rest;
  cut = ap (λ ls. line ∷ ls) stops.cut;
  items = stops.items;
  read = grind (arith, nat_tests, stops.read);
  bad = stops.bad;
  place = let e : end.0 ≡ length stops.good + (number + 1) = stops.place in omega (arith, e);
}

lines_are : (version number : ℕ) (lines : List (List ℕ)) (before : List Item) →
    AreLines version before lines number (judged_lines version before number lines)
unfolding judged_lines
lines_are version number [] before = grind (arith, nat_tests)
lines_are version number (line ∷ later) before =
    grind (arith, nat_tests, later_are, line_is version before line, lines_are version (number + 1) later)

-- ---- the whole

-- a version, and the items of the lines after the first
abbrev with_version : (version : ℕ) → Result (List Item) (ℕ × ℕ) → Result (ℕ × List Item) (ℕ × ℕ)
with_version version (Ok items) = Ok (version, items)
with_version version (Err end) = Err end

abbrev pub judged : List (List ℕ) → Result (ℕ × List Item) (ℕ × ℕ)
judged [] = Err (1, 1)
judged (first ∷ later) =
    if bytes_eq first (first_line 1) then with_version 1 (judged_lines 1 [] 2 later) else
    if bytes_eq first (first_line 2) then with_version 2 (judged_lines 2 [] 2 later) else Err (1, 1)

-- the lines of a script
pub record AreGoodLines (lines : List (List ℕ)) (version : ℕ) (items : List Item) : Type 0 where
  pub known : IsVersion version
  pub later : List (List ℕ)
  pub cut : lines ≡ first_line version ∷ later
  pub read : AreRead version [] later items
  pub whole : lacks_setup items ≡ false

abbrev pub AreJudged : List (List ℕ) → Result (ℕ × List Item) (ℕ × ℕ) → Type 0
AreJudged lines (Ok found) = AreGoodLines lines found.0 found.1
AreJudged lines (Err end) = (BeginsBadly lines × (end.0 ≡ 1) × (end.1 ≡ 1)) ⊎ IsBadLater lines end.0 end.1

version_is : (version : ℕ) (first : List ℕ) (later : List (List ℕ)) → IsVersion version → first ≡ first_line version →
    (result : Result (List Item) (ℕ × ℕ)) → AreLines version [] later 2 result →
    AreJudged (first ∷ later) (with_version version result)
version_is version first later known is result all = grind (arith, nat_tests)

pub judged_is : (lines : List (List ℕ)) → AreJudged lines (judged lines)
judged_is lines = grind (arith, nat_tests, version_is, bytes_eq-Decides, lines_are, same_head)

-- ---- what holds is decided so

-- a line of which nothing is read has no form
no_form : (version : ℕ) (line : List ℕ) (found : Option Item) → parse_line version line ≡ found →
    ((item : Item) → ¬ HasForm version line item) → found ≡ None
no_form version line None e none = refl
no_form version line (Some item) e none = absurd (none item (read_says version line item e))

bad_line : (version : ℕ) (before : List Item) (line : List ℕ) (why : ℕ) → IsBadLine version before line why →
    judged_line version before line ≡ Err why
unfolding judged_line
bad_line version before line why (inl long) = rw (lt-ltb most_bytes (length line) long.0, long.1) refl
bad_line version before line why (inr (inl formless)) =
    let absent = no_form version line (parse_line version line) refl formless.0.none in
    grind (arith, nat_tests, le-ltb)
bad_line version before line why (inr (inr refused)) = grind (arith, nat_tests, le-ltb, line_back)

-- the lines that are read first leave the rest to be judged, from this number on
front_so : (version number place : ℕ) (good rest : List (List ℕ)) (before items : List Item) →
    AreRead version before good items → place ≡ length good + number →
    judged_lines version before number (good ++ rest) ≡ judged_lines version items place rest
unfolding judged_lines judged_line
front_so version number place [] rest before items read is = grind (arith, nat_tests, line_back)
front_so version number place (line ∷ good) rest before items (inl skipped) is =
    let later = front_so version (number + 1) place good rest before items skipped.1 (omega (arith, is)) in
    grind (arith, nat_tests, line_back)
front_so version number place (line ∷ good) rest before items (inr one) is =
    let later = front_so version (number + 1) place good rest (one.0 ∷ before) items one.2 (omega (arith, is)) in
    grind (arith, nat_tests, line_back)

end_so : (version number : ℕ) (items : List Item) (rest : List (List ℕ)) (why : ℕ) →
    EndsBadly version items rest why → judged_lines version items number rest ≡ Err (number, why)
unfolding judged_lines
end_so version number items rest why bad = grind (arith, nat_tests, bad_line)

-- the version of a first line
first_so : (version : ℕ) (later : List (List ℕ)) → IsVersion version →
    judged (first_line version ∷ later) ≡ with_version version (judged_lines version [] 2 later)
unfolding digits
first_so version later (inl one) = rw one refl
first_so version later (inr two) = rw two refl

begins_badly : (lines : List (List ℕ)) → BeginsBadly lines → judged lines ≡ Err (1, 1)
begins_badly lines none = grind (arith, nat_tests, bytes_eq-Decides)

pub judged_so : (lines : List (List ℕ)) (result : Result (ℕ × List Item) (ℕ × ℕ)) → AreJudged lines result →
    judged lines ≡ result
unfolding judged_lines
judged_so lines (Ok found) good =
    let front = front_so found.0 2 (length good.later + 2) good.later [] [] found.1 good.read refl in
    let whole = rw (append-nil good.later, good.whole) at front in
    rw (good.cut, first_so found.0 good.later good.known) (ap (with_version found.0) whole)
judged_so lines (Err end) (inl bad) =
    let first : ◌≡◌ {A = ℕ × ℕ} (1, 1) end = λ i. (sym bad.1 i, sym bad.2 i) in begins_badly lines bad.0 ∙ ap Err first
judged_so lines (Err end) (inr bad) =
    let front = front_so bad.version 2 end.0 bad.good bad.rest [] bad.items bad.read bad.place in
    let whole = front ∙ end_so bad.version end.0 bad.items bad.rest end.1 bad.bad in
    rw (bad.cut, first_so bad.version (bad.good ++ bad.rest) bad.known) (ap (with_version bad.version) whole)

pub text_so : (bytes : List ℕ) (script : Script) → (text : IsScriptText bytes script) →
    judged (lines_of bytes) ≡ Ok (script.version, text.items)
text_so bytes script text = judged_so (lines_of bytes) (Ok (script.version, text.items)) (record {
  known = text.version;
  later = text.later;
  cut = text.lines;
  read = text.read;
  whole = text.whole;
})
