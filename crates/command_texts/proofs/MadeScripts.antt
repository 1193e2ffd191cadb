-- The script that is made.
use Rattle.std.proofs.Common.{◌≡◌, ℕ, zero, suc, ◌*◌, ◌<◌, ◌≤◌, List, length, refl, length-append, arith, Result, IfOk}
use Rattle.board_prelude.proofs.{Entry, IsReplayOf, Setup, flat_map-append, nat_tests}
use Rattle.script_spec.specs.ScriptRange.{statements_in}
use Rattle.script_spec.specs.Lines.{text_of_lines}
use Rattle.script_spec.specs.ScriptText.{Script as Said, IsScriptText}
use Rattle.make_script.specs.MakeText.{setup_lines, opening_lines, round_lines, lines_of_rounds, make_text}
use Rattle.command_texts.specs.Replays.{HasSummary, IsMakeText, made_setup_of}
use Rattle.script_spec.proofs.ReadingLaws.{not_both}

-- ---- how long the text is

fixed_lengths :
    (length (text_of_lines setup_lines) ≡ 94) × (length (text_of_lines opening_lines) ≡ 866)
    × ((i : ℕ) → length (text_of_lines (round_lines i)) ≡ 180)
unfolding setup_lines opening_lines round_lines
fixed_lengths = (refl, refl, λ i. refl)

rounds_length : (n : ℕ) → length (text_of_lines (lines_of_rounds n)) ≡ 180 * n
unfolding lines_of_rounds
rounds_length zero = refl
rounds_length (suc i) = simp (flat_map-append, length-append) (omega (arith, rounds_length i, fixed_lengths.2 i))

pub text_is_short : (n : ℕ) → n ≤ 20_000 → length (make_text n) < 4294967295
unfolding make_text
text_is_short n few =
    simp (flat_map-append, length-append) (omega (arith, fixed_lengths.0, fixed_lengths.1, rounds_length n))

-- ---- the summary

pub made_result : {E : Type 0} (rounds : ℕ) (script : Said) (setup : Setup) (history : List Entry)
    (result : Result (List ℕ) E) → IsScriptText (make_text rounds) script → setup ≡ made_setup_of script →
    IsReplayOf setup (statements_in script) history → IfOk result (λ text. HasSummary setup history text) →
    IfOk result (λ text. IsMakeText rounds text)
made_result rounds script setup history result says same replay summary = grind (arith, nat_tests)

-- `made_script` is proved by these
pub ruleset made_script_rules = (text_is_short, not_both, nat_tests)
