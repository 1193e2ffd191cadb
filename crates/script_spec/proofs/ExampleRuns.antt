-- The worked texts of scripts, decided by computation.
use Rattle.board_prelude.proofs.{nat_tests, digits, false≢true, All-nil, All-cons, weekday_of, days_since_1980}
use Rattle.board_prelude.proofs.{days_of_years, days_of_months, option_map, Rises, find}
use Rattle.std.proofs.Common.{ℕ, ◌≡◌, ◌<◌, Bool, true, false, List, [], ◌∷◌, map, All, Result, Ok, Err, refl, arith}
use Rattle.std.proofs.Common.{subst, Some, ap, drop}
use Rattle.script_spec.specs.Reasons.{is_cpus, is_memory, is_rom, is_disk, cards_of, least_reason}
use Rattle.script_spec.specs.Grammar.{SetCpus, SetMemory, SetRom, SetDisk, Item}
use Rattle.script_spec.specs.ScriptText.{phase_items, Script, IsScriptText, IsScriptBad}
use Rattle.script_spec.specs.Lines.{lines_of, text_of_lines}
use Rattle.script_spec.specs.Numbers.{number_after, parse_two_digits, after_mark}
use Rattle.script_spec.specs.Moments.{parse_moment_part, parse_year, parse_date, parse_time, whole_moment, parse_moment}
use Rattle.script_spec.specs.Cards.{parse_base, parse_rom_bits, with_base, with_rom, with_field, with_fields}
use Rattle.script_spec.specs.Cards.{parse_card}
use Rattle.script_spec.specs.Events.{parse_smm, memory_event, parse_read, parse_write, parse_in, parse_out, parse_look}
use Rattle.script_spec.specs.Events.{parse_ack, parse_number, parse_two_numbers, parse_given, read_event, write_event}
use Rattle.script_spec.specs.Events.{in_event, out_event, look_event}
use Rattle.script_spec.specs.Items.{parse_only_moment, parse_time_item, parse_stimulus_item, parse_by_verb}
use Rattle.script_spec.specs.Items.{parse_statement_words, is_name, parse_name, parse_phase, parse_statement}
use Rattle.script_spec.specs.Items.{parse_by_key, parse_item}
use Rattle.script_spec.specs.ExampleScripts.{IsBadText, bad_texts, AreBad, Bound, with_line, IsBound, bounds, AreBounds}
use Rattle.script_spec.specs.ExampleScripts.{TwoProcessors, TwoOrders, WideScript}
use Rattle.script_spec.proofs.ReadingExists.{run_of, text_said}
use Rattle.script_spec.proofs.Chains.{same_head}
use Rattle.script_spec.proofs.Decision.{judged, judged_line, judged_lines, AreJudged, judged_is}
use Rattle.script_spec.specs.ExampleEntries.{NameBorders, EntryBorders}

abbrev Judged : Type 0
Judged = Result (ℕ × List Item) (ℕ × ℕ)

abbrev judge : List ℕ → Judged
judge bytes = judged (lines_of bytes)

abbrev is_good : Judged → Bool
is_good (Ok found) = true
is_good (Err end) = false

is_bad : (bytes : List ℕ) (line why : ℕ) → judge bytes ≡ Err (line, why) → IsScriptBad bytes line why
is_bad bytes line why e = subst (AreJudged (lines_of bytes)) e (judged_is (lines_of bytes))

-- what computes to what it should be in each row
each : {X Y : Type 0} (P : X → Type 0) (has is : X → Y) → ((x : X) → has x ≡ is x → P x) → (rows : List X) →
    map has rows ≡ map is rows → All P rows
each P has is so [] e = All-nil P
each P has is so (row ∷ rows) e =
    All-cons P row rows (so row (same_head _ _ _ _ e)) (each P has is so rows (ap (λ l. drop 1 l) e))

abbrev judge_at : (place : ℕ) → List ℕ → Judged
judge_at place line = judge (text_of_lines (with_line place line))

abbrev bound_judged : Bound → Bool × Judged
bound_judged row = (is_good (judge_at row.place row.good), judge_at row.place row.bad)

abbrev bound_is : Bound → Bool × Judged
bound_is row = (true, Err (row.place, row.why))

bound_so : (row : Bound) → bound_judged row ≡ bound_is row → IsBound row
bound_so row e = grind (arith, nat_tests, judged_is, is_bad, text_said, false≢true)

says : (bytes : List ℕ) (script : Script) (items : List Item) → judge bytes ≡ Ok (script.version, items) →
    find is_cpus items ≡ Some (SetCpus script.cpus) → find is_memory items ≡ Some (SetMemory script.mib) →
    find is_rom items ≡ Some (SetRom script.rom) → find is_disk items ≡ option_map SetDisk script.disk →
    cards_of items ≡ script.cards → Rises script.cards → run_of items ≡ phase_items script.phases →
    IsScriptText bytes script
says bytes script items e cpus memory rom disk cards rises phases = grind (arith, nat_tests, judged_is)

-- ---- the worked texts

pub worked : AreBad × AreBounds × TwoProcessors × TwoOrders × WideScript
unfolding AreBad AreBounds TwoProcessors TwoOrders WideScript bad_texts bounds lines_of digits judged_line
    judged_lines number_after parse_two_digits after_mark parse_moment_part parse_year parse_date parse_time
    whole_moment parse_moment parse_base parse_rom_bits with_base with_rom with_field with_fields parse_card parse_smm
    memory_event read_event write_event in_event out_event look_event parse_read parse_write parse_in parse_out
    parse_look parse_ack parse_number parse_two_numbers parse_only_moment parse_time_item parse_stimulus_item
    parse_given parse_by_verb parse_statement_words is_name parse_name parse_phase parse_statement parse_by_key
    parse_item least_reason weekday_of days_since_1980 days_of_years days_of_months
worked = (
  each IsBadText (λ text. judge (text_of_lines text.lines)) (λ text. Err (text.line, text.why))
      (λ text. is_bad (text_of_lines text.lines) text.line text.why) bad_texts refl,
  each IsBound bound_judged bound_is bound_so bounds refl,
  says _ _ _ refl refl refl refl refl refl (
    All-cons (λ other. 2 < other.dev) _ [] (omega arith) (All-nil (λ other. 2 < other.dev)),
    (All-nil (λ other. 3 < other.dev), tt),
  ) refl,
  says _ _ _ refl refl refl refl refl refl (tt {0}) refl,
  says _ _ _ refl refl refl refl refl refl (All-nil (λ other. 2 < other.dev), tt) refl,
)

-- ---- the borders of what a log can say

pub borders : NameBorders × EntryBorders
borders = grind (arith, nat_tests)
