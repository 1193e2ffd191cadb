-- A statement that is read straight from the bytes of its line is the one that its fields say.
use Rattle.board_prelude.proofs.{nat_tests, All-nil, All-cons, Event, Width, Kind}
use Rattle.std.proofs.Common.{arith, ◌≡◌, ℕ, ◌+◌, ◌*◌, false, Option, Some, None, List, [], ◌∷◌, ◌++◌, All, sym, ap}
use Rattle.std.proofs.Common.{◌∙◌, IfSome, MatchOption}
use Rattle.std.proofs.lemmas.List.Splits.{slice_split_none, slice_split_at}
use Rattle.script_spec.specs.Grammar.{HasForm}
use Rattle.script_spec.specs.Fields.{fields_of}
use Rattle.script_spec.specs.Events.{parse_size, parse_width, parse_kind, parse_smm, parse_read, read_event}
use Rattle.script_spec.specs.Numbers.{parse_hex, parse_decimal, parse_digit, number_after}
use Rattle.script_spec.specs.Items.{ask}
use Rattle.script_spec.specs.ScriptText.{is_skipped}
use Rattle.script_spec.proofs.Chains.{guarded, then_said}
use Rattle.script_spec.proofs.NumberTexts.{decimal_read}
use Rattle.script_spec.proofs.LineReading.{read_says}
use Rattle.scripts.specs.Straight.{Asks}
use Rattle.script_spec.proofs.ItemBack.{number_first}
use Rattle.scripts.proofs.FieldLemmas.{is_space}

abbrev pub IsField : List ℕ → Type 0
IsField field = All (λ byte. is_space byte ≡ false) field

-- ---- what says something has no space

pub none_some : {A : Type 0} (x : A) → ◌≡◌ {A = Option A} None (Some x) → ⊥
none_some x e = cc

number_lacks : (base high n : ℕ) (field : List ℕ) → number_after base high field ≡ Some n → IsField field
unfolding number_after
number_lacks base high n [] e = All-nil (λ byte. is_space byte ≡ false)
number_lacks base high n (byte ∷ rest) e =
    let k = then_said (parse_digit base byte) (λ digit. number_after base (high * base + digit) rest) n e in
    All-cons (λ byte. is_space byte ≡ false) byte rest (grind (arith, nat_tests, k.1))
    (number_lacks base (high * base + k.0) n rest k.2)

pub hex_lacks : (digits n : ℕ) (field : List ℕ) → parse_hex digits field ≡ Some n → IsField field
hex_lacks digits n field e = grind (arith, nat_tests, number_lacks, guarded)

pub size_lacks : (version size bytes : ℕ) → parse_size version (size ∷ []) ≡ Some bytes → is_space size ≡ false
size_lacks version size bytes e = grind (arith, nat_tests)

pub width_lacks : (byte : ℕ) (width : Width) → parse_width (byte ∷ []) ≡ Some width → is_space byte ≡ false
width_lacks byte width e = grind (arith, nat_tests)

pub kind_lacks : (byte : ℕ) (kind : Kind) → parse_kind (byte ∷ []) ≡ Some kind → is_space byte ≡ false
kind_lacks byte kind e = grind (arith, nat_tests)

-- ---- fields

one_byte : (byte : ℕ) (rest : List ℕ) → is_space byte ≡ false
    → fields_of (byte ∷ 32 ∷ rest) ≡ (byte ∷ []) ∷ fields_of rest
one_byte byte rest lacks = grind (arith, nat_tests)

pub last_field : (byte : ℕ) (field : List ℕ) → is_space byte ≡ false → IsField field
    → fields_of (byte ∷ 32 ∷ field) ≡ (byte ∷ []) ∷ field ∷ []
last_field byte field lacks whole = simp (one_byte, slice_split_none, is_space)

pub last_fields : (byte : ℕ) (text first second : List ℕ) → text ≡ first ++ 32 ∷ second → is_space byte ≡ false →
    IsField first → IsField second → fields_of (byte ∷ 32 ∷ text) ≡ (byte ∷ []) ∷ first ∷ second ∷ []
last_fields byte text first second is lacks one two =
    grind (arith, nat_tests, one_byte, slice_split_at, is_space, slice_split_none)

pub access_straight : (version size : ℕ) (kind : Kind) (text addr : List ℕ) (found : Option Event)
    → text ≡ size ∷ 32 ∷ addr → found ≡ read_event version kind (size ∷ []) addr false
    → IfSome found (λ event. parse_read version kind (fields_of text) ≡ Some event)
unfolding parse_read parse_smm read_event
access_straight version size kind text addr found is made =
    grind (arith, nat_tests, then_said, last_field, size_lacks, hex_lacks)

-- a statement that is read straight, once its fields are known
pub ruleset straight =
    (nat_tests, then_said, last_field, last_fields, size_lacks, width_lacks, kind_lacks, hex_lacks)

pub matched : {A : Type 0} (N : Type 0) (P : A → Type 0) (found : Option A) → MatchOption found N P → IfSome found P
matched N P found m = grind (arith, nat_tests)

-- ---- the line

pub line_straight : (version digit actor : ℕ) (line words : List ℕ) (event : Event) → line ≡ digit ∷ 32 ∷ words
    → Some actor ≡ parse_decimal (digit ∷ []) → Asks version words event → HasForm version line (ask actor event)
unfolding number_after
line_straight version digit actor line words event cut said asks =
    let is = decimal_read (digit ∷ []) actor (sym said) in
    read_says version line (ask actor event)
    (rw (cut, one_byte digit words (grind (arith, nat_tests, sym said)), is.0)
    (number_first version actor (fields_of words) (ask actor event) is.1 (asks actor)))

-- it is neither empty nor a comment
pub line_said : (digit actor : ℕ) (line words : List ℕ) → line ≡ digit ∷ 32 ∷ words →
    Some actor ≡ parse_decimal (digit ∷ []) → is_skipped line ≡ false
unfolding number_after
line_said digit actor line words cut said = ap is_skipped cut ∙ (grind (arith, nat_tests, sym said))
