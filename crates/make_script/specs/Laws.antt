-- What the laws say: each is proved on a function of `laws`.
use Rattle.std.specs.Prelude.{ℕ, ◌≡◌, ◌≤◌, ◌+◌, ◌*◌, List, length, All}
use Rattle.board_prelude.specs.{Reply, Bus, Saw, Entry, IsSetup}
use Rattle.board_spec.specs.declared.event.Reply.TheVariants.{Parts as InParts}
use Rattle.script_spec.specs.ScriptText.{IsScriptText}
use Rattle.script_spec.specs.ScriptRange.{IsInRangeScript}
use Rattle.make_script.specs.MakeText.{make_text}
use Rattle.make_script.specs.MadeScript.{made_statements, made_script, made_setup}
use Rattle.make_script.specs.Summary.{is_dram, is_shadow, is_smram, is_rom, is_card, is_config, is_device, is_abort}
use Rattle.make_script.specs.Summary.{answers, is_look, count_where}

-- the most rounds
abbrev pub most_rounds : ℕ
most_rounds = 20_000

-- the text is that of a script, and says its value
abbrev pub MakeTextIsScript : Type 0
MakeTextIsScript = (n : ℕ) → n ≤ most_rounds → IsScriptText (make_text n) (made_script n)

-- the value is in range: so each statement is of processor 0 or 1
abbrev pub MadeIsInRange : Type 0
MadeIsInRange = (n : ℕ) → n ≤ most_rounds → IsInRangeScript (made_script n)

abbrev pub StatementCount : Type 0
StatementCount = (n : ℕ) → length (made_statements n) ≡ 11 * n + 47

-- a board can be fitted with what the script and its images say
abbrev pub MadeSetupFits : Type 0
MadeSetupFits = IsSetup made_setup

-- ---- the summary

abbrev pub IsCycleReply : Reply → Type 0
IsCycleReply (Bus value target denial) = Unit {0}
IsCycleReply (InParts parts value) = ⊥
IsCycleReply (Saw look) = Unit {0}

-- without wide accesses each entry is a look, or counts under one kind of target
abbrev pub KindsAddUp : Type 0
KindsAddUp =
    (history : List Entry) → All (λ entry. IsCycleReply entry.reply) history →
    count_where (answers is_dram) history + count_where (answers is_shadow) history + count_where (answers is_smram)
    history
    + count_where (answers is_rom) history + count_where (answers is_card) history + count_where (answers is_config)
    history
    + count_where (answers is_device) history + count_where (answers is_abort) history + count_where is_look history
    ≡ length history
