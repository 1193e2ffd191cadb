-- A text says at most one script, and is bad at one line for one reason, but not both: it is decided.
use Rattle.board_prelude.proofs.{nat_tests}
use Rattle.std.proofs.Common.{arith, ℕ, List, [], ◌∷◌, ◌++◌, inl, sym, ◌∙◌, Err}
use Rattle.script_spec.specs.Lines.{lines_of}
use Rattle.script_spec.specs.Grammar.{Item}
use Rattle.script_spec.specs.ScriptText.{IsSkipped, IsGoodLine, AreRead}
use Rattle.script_spec.specs.Laws.{NotBoth, OneRefusal}
use Rattle.script_spec.proofs.Decision.{judged_so, text_so}

-- one line more is read
pub read_more : (version : ℕ) (lines : List (List ℕ)) (line : List ℕ) (before items : List Item) (item : Item) →
    AreRead version before lines items → IsGoodLine version items line item →
    AreRead version before (lines ++ line ∷ []) (item ∷ items)
read_more version [] line before items item read good = grind (arith, nat_tests)
read_more version (first ∷ later) line before items item read good =
    grind (arith, nat_tests, read_more version later line)

pub skip_more : (version : ℕ) (lines : List (List ℕ)) (line : List ℕ) (before items : List Item) →
    AreRead version before lines items → IsSkipped line → AreRead version before (lines ++ line ∷ []) items
skip_more version [] line before items read skipped = inl (skipped, read)
skip_more version (first ∷ later) line before items read skipped =
    grind (arith, nat_tests, skip_more version later line)

-- ---- the whole

pub not_both : NotBoth
not_both bytes script line why text bad =
    cc (text_so bytes script text, judged_so (lines_of bytes) (Err (line, why)) bad)

pub one_refusal : OneRefusal
one_refusal bytes line why place cause one two =
    let same = sym (judged_so (lines_of bytes) (Err (line, why)) one) ∙ judged_so _ (Err (place, cause)) two in
    grind arith
