-- A line that is read straight.
use Rattle.board_prelude.proofs.{nat_tests, AllZip, All-nil, All-cons, Event}
use Rattle.std.proofs.Common.{◌≡◌, ℕ, true, false, None, List, [], ◌∷◌, Result, Ok, Err, OnOk, All, arith}
use Rattle.script_spec.specs.Grammar.{Item, StandsFor, HasForm, item_text}
use Rattle.script_spec.specs.Items.{ask}
use Rattle.script_spec.specs.ScriptText.{AreRead}
use Rattle.script_spec.specs.Reasons.{least_reason}
use Rattle.script_spec.proofs.Digits.{lacks, lacks-first, lacks-later, lacks-append}
use Rattle.script_spec.proofs.PlainText.{lacks-word, lacks-plain, decimal_word}
use Rattle.script_spec.proofs.Words.{event_plain}
use Rattle.scripts.specs.declared.reading.Reading.{Reading}
use Rattle.scripts.specs.Reading.{IsReadingOf}
use Rattle.scripts.specs.StraightLine.{IsStraight}
use Rattle.scripts.proofs.LineLemmas.{is_feed}

-- ---- no byte of it is a line feed

stands_lacks : (c t : ℕ) → StandsFor c t → is_feed t ≡ false → is_feed c ≡ false
stands_lacks c t stands lack = grind (arith, nat_tests)

spelled_line :
    (line text : List ℕ) → AllZip StandsFor line text → lacks 10 text ≡ true → All (λ byte. is_feed byte ≡ false) line
spelled_line [] [] spells lack = All-nil (λ byte. is_feed byte ≡ false)
spelled_line (c ∷ cs) (t ∷ ts) spells lack =
    let later = spelled_line cs ts spells.1 (lacks-later 10 t ts lack) in
    grind (arith, nat_tests, All-cons, stands_lacks, lacks-first)
spelled_line _ _ spells lack = absurd spells

pub asked_line : (version actor : ℕ) (line : List ℕ) (event : Event) → HasForm version line (ask actor event) →
    All (λ byte. is_feed byte ≡ false) line
unfolding item_text
asked_line version actor line event has =
    grind (arith, nat_tests, spelled_line, lacks-append, lacks-word, decimal_word, lacks-plain, event_plain)

-- ---- it is read

-- where its item is taken, the line is read
pub line_taken : {T E : Type 0} (r : Result T E) (version : ℕ) (line : List ℕ) (actor : ℕ) (event : Event)
    (old new : Reading)
    → IsStraight version line actor event
    → OnOk r ((items : List Item) → IsReadingOf items old
    → (least_reason items (ask actor event) ≡ None) × IsReadingOf (ask actor event ∷ items) new)
    → OnOk r ((items : List Item) → IsReadingOf items old
    → (more : List Item) × IsReadingOf more new × AreRead version items (line ∷ []) more)
line_taken (Ok x) version line actor event old new is taken = grind (arith, nat_tests)
line_taken (Err e) version line actor event old new is taken = tt
