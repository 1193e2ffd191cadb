-- The lines of a log, read one by one.
use Rattle.board_prelude.proofs.{nat_tests, common_steps, digits, Entry, line_feed, line_text, lines_text}
use Rattle.std.proofs.Common.{◌≡◌, ◌≢◌, ℕ, ◌+◌, Option, Some, None, List, [], ◌∷◌, ◌++◌, length, reverse, refl, sym}
use Rattle.std.proofs.Common.{inl, inr, arith, MatchOption}
use Rattle.script_spec.specs.ScriptText.{IsVersion}
use Rattle.script_spec.specs.WellFormed.{IsWellFormed}
use Rattle.script_spec.specs.Cuts.{cut}
use Rattle.script_spec.proofs.CheckLaws.{lacks-line}
use Rattle.script_spec.proofs.LogLaws.{line_whole}
use Rattle.script_spec.proofs.Chains.{some_is, word_is}
use Rattle.script_spec.proofs.Digits.{cut_field, cut_joined}
use Rattle.logs.specs.Reading.{heading, parse_heading, HasEntry, HasNoEntry}

-- ---- the next line

pub none_uncut : (version n : ℕ) (rest : List ℕ) → None ≡ cut line_feed rest → HasNoEntry version n rest
none_uncut version n rest uncut entry after has =
    grind (arith, nat_tests, common_steps, cut_field, lacks-line, line_whole)

-- the line before the next line feed has an entry, or none
pub line_told : (version n : ℕ) (rest line after : List ℕ) (read : Option Entry) →
    Some (line, after) ≡ cut line_feed rest →
    MatchOption read ((entry : Entry) → IsWellFormed version entry → line ≢ line_text n entry)
    (λ entry. IsWellFormed version entry × (line ≡ line_text n entry)) →
    MatchOption read (HasNoEntry version n rest) (λ entry. HasEntry version n rest entry after)
line_told version n rest line after read parts exact =
    let joined = cut_joined line_feed rest line after (sym parts) in
    grind (arith, nat_tests, lacks-line, line_whole, cut_field)

-- ---- the entries so far

pub lines_more : (version n : ℕ) (lines rest after : List ℕ) (entries : List Entry) (entry : Entry) →
    n ≡ length entries + 1 → lines ≡ lines_text (reverse entries) ++ rest → HasEntry version n rest entry after →
    lines ≡ lines_text (reverse (entries ++ entry ∷ [])) ++ after
unfolding lines_text
lines_more version n lines rest after entries entry place cut has = grind (arith, nat_tests, common_steps)

-- ---- headings

pub version_said : (line : List ℕ) (version : ℕ) → parse_heading line ≡ Some version
    → IsVersion version × (line ≡ heading version)
unfolding digits
version_said line version e = grind (arith, nat_tests, some_is, word_is)

pub version_known : (version : ℕ) → IsVersion version → parse_heading (heading version) ≡ Some version
unfolding digits
version_known version (inl one) = rw one refl
version_known version (inr two) = rw two refl
