-- A log as lines: its heading, and a line for each entry.
use Rattle.std.proofs.Common.{ℕ, ◌≡◌, ◌+◌, List, [], ◌∷◌, ◌++◌, length, All, refl, append_assoc, append-nil, arith}
use Rattle.std.proofs.Common.{codes, decimal}
use Rattle.board_prelude.proofs.{common_steps, nat_tests, append_cancel_left, All-cons, Entry, line_feed, line_text}
use Rattle.board_prelude.proofs.{lines_text, log_text}
use Rattle.script_spec.specs.Lines.{text_of_lines, IsOneLine}
use Rattle.script_spec.proofs.Digits.{lacks-append}
use Rattle.script_spec.proofs.CheckLaws.{one_line, compared}
use Rattle.script_spec.proofs.PlainText.{lacks-word, decimal_word}
use Rattle.script_spec.proofs.LogLaws.{lines_whole, lines_joined, log_lines, nothing_more}
use Rattle.logs.specs.Reading.{heading}

last_line : (head lines line rest : List ℕ) →
    (head ++ line_feed ∷ (lines ++ line ++ line_feed ∷ [])) ++ rest
    ≡ (head ++ line_feed ∷ lines) ++ (line ++ line_feed ∷ rest)
last_line head lines line rest = simp append_assoc

pub log-newest :
    (version : ℕ) (entry : Entry) (history : List Entry) (rest : List ℕ) →
    log_text version (entry ∷ history) ++ rest
    ≡ log_text version history ++ (line_text (length history + 1) entry ++ line_feed ∷ rest)
unfolding lines_text
log-newest version entry history rest =
    last_line (heading version) (lines_text history) (line_text (length history + 1) entry) rest

abbrev pub lines_in : (version : ℕ) → List Entry → List (List ℕ)
lines_in version history = heading version ∷ log_lines history

pub lines_are : (version : ℕ) (history : List Entry) →
    text_of_lines (lines_in version history) ≡ log_text version history
lines_are version history = grind (arith, nat_tests, lines_joined, append_assoc)

pub lines_each : (version : ℕ) (history : List Entry) → All IsOneLine (lines_in version history)
lines_each version history =
    let first : IsOneLine (heading version) =
    grind (arith, nat_tests, one_line, lacks-append, line_feed, codes, decimal, lacks-word, decimal_word) in
    All-cons IsOneLine (heading version) (log_lines history) first (lines_whole history)

pub lines_count : (history : List Entry) → length (log_lines history) ≡ length history
lines_count [] = refl
lines_count (entry ∷ before) = grind (arith, nat_tests, common_steps, lines_count before)

-- lines that stand first in a text of lines are the first of its lines
pub record StandFirst (lines : List (List ℕ)) (rest : List ℕ) (whole : List (List ℕ)) : Type 0 where
  pub more : List (List ℕ)
  pub is : whole ≡ lines ++ more
  pub text : rest ≡ text_of_lines more

pub stand_first : (lines : List (List ℕ)) (rest : List ℕ) (whole : List (List ℕ)) → All IsOneLine lines →
    All IsOneLine whole → text_of_lines lines ++ rest ≡ text_of_lines whole → StandFirst lines rest whole
stand_first lines rest whole each all same =
    let cases = compared lines rest whole [] each all in
    grind (arith, nat_tests, cases, append-nil, append_assoc, append_cancel_left, nothing_more)
