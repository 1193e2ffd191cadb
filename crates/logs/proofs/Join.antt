-- The lines of a history, one after another.
use Rattle.std.proofs.Common.{ap, ◌≡◌, ℕ, ◌+◌, ◌*◌, ◌-◌, ◌<◌, ◌≤◌, ◌++◌, List, [], ◌∷◌, length, get_or, take, drop}
use Rattle.std.proofs.Common.{refl, ◌∙◌, append_assoc, append-nil, arith, Result, Ok, IfOk, string_bytes, String}
use Rattle.std.proofs.Common.{reverse, Global, take_all, length-take-le, length-append, length-drop, get_or-drop}
use Rattle.board_prelude.proofs.{nat_tests, common_steps, drop_all, get_or-append_seam, Entry, line_feed, line_text}
use Rattle.board_prelude.proofs.{log_text}
use Rattle.std.proofs.Math.Seq.{take-add}
use Rattle.logs.specs.LinesFrom.{lines_from}
use Rattle.logs.proofs.Parts.{lines_of_parts, log_text-lines, appended_line}

-- of no entries there are no lines
pub no_lines : (first n : ℕ) (entries : List Entry) (text : List ℕ) → n ≡ 0
    → text ≡ text ++ lines_from first (take n entries)
unfolding lines_from
no_lines first n entries text none = rw (none, append-nil text) refl

pub whole_of_lines :
    {E : Type 0} (version : ℕ) (entries : List Entry) (before heading text : List ℕ) (result : Result (List ℕ) E)
    → before ≡ [] → heading ≡ before ++ log_text version [] → text ≡ heading ++ lines_from 1 entries
    → IfOk result (λ whole. whole ≡ text) → IfOk result (λ whole. whole ≡ log_text version (reverse entries))
whole_of_lines version entries before heading text result none first lines is =
    grind (arith, nat_tests, log_text-lines version entries)

-- the line of the entry at i makes the lines from a place on one entry longer
pub line_added : (start i : ℕ) (entries : List Entry) (line : Entry) → start ≤ i → i < length entries →
    get_or entries i line ≡ line → (old lines new : List ℕ) → lines ≡ old ++ lines_from (start + 1)
    (take (i - start) (drop start entries)) → new ≡ lines ++ (line_text (i + 1) line ++ line_feed ∷ []) →
    new ≡ old ++ lines_from (start + 1) (take (i + 1 - start) (drop start entries))
line_added start i entries line later inside own old lines new so_far added =
    grind (arith, nat_tests, appended_line (start + 1) (drop start entries) (i - start) line, length-drop, get_or-drop)
