-- The lines of a history and of its parts.
use Rattle.std.proofs.Common.{◌≡◌, ℕ, ◌+◌, ◌<◌, ◌++◌, List, [], ◌∷◌, length, reverse, take, get_or, append_assoc, arith}
use Rattle.board_prelude.proofs.{reverse-append, append-nil, nat_tests, common_steps, Entry, line_feed, line_text}
use Rattle.board_prelude.proofs.{lines_text, log_text}
use Rattle.logs.specs.LinesFrom.{lines_from}

pub lines_of_parts : (first : ℕ) (early late : List Entry) →
    lines_from first (early ++ late) ≡ lines_from first early ++ lines_from (first + length early) late
unfolding lines_from
lines_of_parts first [] late = grind (arith, nat_tests)
lines_of_parts first (entry ∷ early) late =
    grind (arith, nat_tests, append_assoc, lines_of_parts (first + 1) early late)

lines_after : (entries before : List Entry) →
    lines_text (reverse entries ++ before) ≡ lines_text before ++ lines_from (length before + 1) entries
unfolding lines_from lines_text
lines_after [] before = grind (arith, nat_tests, append-nil)
lines_after (entry ∷ entries) before =
    let turned = reverse-append (entry ∷ []) entries in
    grind (arith, nat_tests, append_assoc, turned, lines_after entries (entry ∷ before))

pub lines_of_history : (entries : List Entry) → lines_text (reverse entries) ≡ lines_from 1 entries
unfolding lines_text
lines_of_history entries = rw append-nil at (lines_after entries [])

-- the log is the heading and the lines from 1 on
pub log_text-lines : (version : ℕ) (entries : List Entry) →
    log_text version (reverse entries) ≡ log_text version [] ++ lines_from 1 entries
unfolding lines_text
log_text-lines version entries = rw (lines_of_history entries) (simp append_assoc)

lines_from-one_more :
    (first : ℕ) (entries : List Entry) (i : ℕ) (default : Entry) → i < length entries
    → lines_from first (take (i + 1) entries)
    ≡ lines_from first (take i entries) ++ (line_text (first + i) (get_or entries i default) ++ line_feed ∷ [])
unfolding lines_from
lines_from-one_more first entries i default inside = grind (arith, nat_tests, common_steps, lines_of_parts)

-- the line of the entry at i makes the lines one entry longer
pub appended_line : (first : ℕ) (entries : List Entry) (i : ℕ) (default : Entry) → i < length entries →
    (old lines new : List ℕ) → lines ≡ old ++ lines_from first (take i entries) →
    new ≡ lines ++ (line_text (first + i) (get_or entries i default) ++ line_feed ∷ []) →
    new ≡ old ++ lines_from first (take (i + 1) entries)
appended_line first entries i default inside old lines new so_far entry =
    rw (entry, so_far, lines_from-one_more first entries i default inside) (simp append_assoc)
