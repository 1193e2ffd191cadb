-- The run over the lines.
use Rattle.board_prelude.proofs.{nat_tests, digits, bytes_eq-Decides}
use Rattle.std.proofs.Common.{◌≡◌, ℕ, ◌+◌, true, false, Result, List, [], ◌∷◌, ◌++◌, length, refl, append_assoc}
use Rattle.std.proofs.Common.{length-append, arith, IfOk, codes, bytes_eq}
use Rattle.script_spec.specs.Lines.{lines_of}
use Rattle.script_spec.specs.Grammar.{Item}
use Rattle.script_spec.specs.ScriptText.{AreRead, first_line, IsScriptText, BeginsBadly}
use Rattle.script_spec.specs.ScriptRange.{IsInRangeScript}
use Rattle.script_spec.proofs.Chains.{same_head, word_is}
use Rattle.script_spec.proofs.ReadingLaws.{read_more, skip_more}
use Rattle.script_spec.proofs.RangeLaws.{scripts_are_in_range}
use Rattle.scripts.specs.declared.fault.ScriptFault.{ScriptFault}
use Rattle.scripts.specs.declared.reading.Reading.{Reading}
use Rattle.scripts.specs.declared.script.Script.{Script}
use Rattle.scripts.specs.Reading.{IsReadingOf}
use Rattle.scripts.specs.Script.{said_of}

-- ---- the first line

pub first_is : first_line 1 ≡ codes "board 1"
unfolding digits
first_is = refl

pub second_is : first_line 2 ≡ codes "board 2"
unfolding digits
second_is = refl

-- a line that is this text is the first one of its version
pub said_version : (version : ℕ) (text : List ℕ) (lines later : List (List ℕ)) (line : List ℕ) →
    first_line version ≡ text → lines ≡ line ∷ later → bytes_eq line text ≡ true → lines ≡ first_line version ∷ later
said_version version text lines later line first cut e = rw (cut, first, word_is line text e) refl

pub no_version : (lines later : List (List ℕ)) (line : List ℕ) → lines ≡ line ∷ later →
    bytes_eq line (codes "board 1") ≡ false → bytes_eq line (codes "board 2") ≡ false → BeginsBadly lines
no_version lines later line cut one two version rest known e =
    grind (arith, nat_tests, bytes_eq-Decides, codes, same_head, first_is, second_is)

-- ---- the lines after it

-- the lines in front of the rest are good, this is kept of them, and the next line has this number
pub record IsRun (version : ℕ) (lines rest : List (List ℕ)) (number : ℕ) (reading : Reading) : Type 0 where
  pub good : List (List ℕ)
  pub cut : lines ≡ good ++ rest
  pub items : List Item
  pub read : AreRead version [] good items
  pub known : IsReadingOf items reading
  pub place : number ≡ length good + 2

-- one line is read after the items before it
abbrev pub Reads : (version : ℕ) (line : List ℕ) (old new : Reading) → Type 0
Reads version line old new =
    (items : List Item) → IsReadingOf items old →
    (more : List Item) × IsReadingOf more new × AreRead version items (line ∷ []) more

read_then : (version : ℕ) (good : List (List ℕ)) (line : List ℕ) (items more : List Item) →
    AreRead version [] good items → AreRead version items (line ∷ []) more → AreRead version [] (good ++ line ∷ []) more
read_then version good line items more read one = grind (arith, nat_tests, skip_more, read_more)

pub run_more : (version : ℕ) (lines rest later : List (List ℕ)) (line : List ℕ) (number : ℕ) (old new : Reading) →
    rest ≡ line ∷ later → IsRun version lines rest number old → Reads version line old new →
    IsRun version lines later (number + 1) new
run_more version lines rest later line number old new cut run reads =
    let more = reads run.items run.known in
    record {
      good = run.good ++ line ∷ [];
      cut = rw (run.cut, cut) (simp append_assoc);
      items = more.0;
      read = read_then version run.good line run.items more.0 run.read more.2;
      known = more.1;
      place = omega (arith, run.place, length-append run.good (line ∷ []));
    }

-- ---- the whole

pub in_range : (result : Result Script ScriptFault) (bytes : List ℕ) (version : ℕ) (later : List (List ℕ)) →
    lines_of bytes ≡ first_line version ∷ later →
    IfOk result (λ script. (text : List ℕ) → lines_of text ≡ first_line version ∷ later
    → IsScriptText text (said_of script)) →
    IfOk result (λ script. IsInRangeScript (said_of script))
in_range result bytes version later first said = grind (arith, nat_tests, scripts_are_in_range)
