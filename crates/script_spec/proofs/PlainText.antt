-- The bytes of the log's words: spaces, letters, digits and a few marks, but no line feed and no `=`.
use Rattle.std.proofs.Common.{ℕ, zero, suc, ◌≡◌, ◌/◌, ◌%◌, Bool, true, false, ◌||◌, eqb, Option, List, [], ◌∷◌, ◌++◌}
use Rattle.std.proofs.Common.{refl, ◌∙◌, arith, decimal, All}
use Rattle.board_prelude.proofs.{nat_tests, digits, list_all, and_from, and_parts, Reg, Area, Target, Denial, byte}
use Rattle.board_prelude.proofs.{is_within, space, hex_number, hex_offset, register_text, base_text, area_text}
use Rattle.board_prelude.proofs.{target_text, denial_text, Moment, moment_text, value_text, common_steps}
use Rattle.board_prelude.proofs.{join_with_byte, All-nil, All-cons}
use Rattle.script_spec.specs.Grammar.{is_name_byte}
use Rattle.std.specs.Fmt.{digits_onto, digit_glyph}
use Rattle.std.proofs.lemmas.List.Folds.{list_all-append}
use Rattle.board_base.specs.declared.target.Target.TheVariants as targets
use Rattle.script_spec.proofs.Digits.{lacks, lacks-first, lacks-later}
use Rattle.std.proofs.lemmas.List.Splits.{slice_split_none, slice_split_at}
use Rattle.script_spec.specs.Fields.{fields_of}
use Rattle.script_spec.proofs.Chains.{Spells, Reads}

abbrev pub is_word_byte : ℕ → Bool
is_word_byte byte = is_within 0x2D 0x3A byte || is_within 0x41 0x7A byte

abbrev pub is_word : List ℕ → Bool
is_word bytes = list_all is_word_byte bytes

pub word-append : (xs ys : List ℕ) → is_word xs ≡ true → is_word ys ≡ true → is_word (xs ++ ys) ≡ true
word-append xs ys one two = list_all-append is_word_byte xs ys ∙ and_from (is_word xs) (is_word ys) one two

-- the marks that end words stand in none
pub lacks-word : (mark : ℕ) (xs : List ℕ) → is_word_byte mark ≡ false → is_word xs ≡ true → lacks mark xs ≡ true
lacks-word mark [] outside word = refl
lacks-word mark (c ∷ cs) outside word = grind (arith, nat_tests, lacks-word mark cs outside)

-- ---- digits

pub hex_number_word : (bytes n : ℕ) → is_word (hex_number bytes n) ≡ true
hex_number_word zero n = refl
hex_number_word (suc bytes) n = grind (arith, nat_tests, hex_number_word bytes n)

digits_word : (count n : ℕ) (after : List ℕ) → is_word after ≡ true →
    is_word (digits_onto count 10 false n after) ≡ true
digits_word zero n after word = word
digits_word (suc count) n after word =
    grind (arith, nat_tests, digits_word count (n / 10) (digit_glyph false (n % 10) ∷ after))

pub decimal_word : (n : ℕ) → is_word (decimal n) ≡ true
unfolding digits
decimal_word n = digits_word 64 n [] refl

-- ---- who answers

register_word : (reg : Reg) → is_word (register_text reg) ≡ true
register_word reg = grind (arith, nat_tests)

base_word_text : (dev base : ℕ) → is_word (base_text dev base) ≡ true
base_word_text dev base = simp (word-append, decimal_word)

offset_word : (off : ℕ) → is_word (hex_offset off) ≡ true
offset_word off = grind (arith, nat_tests)

pub area_word : (area : Area) → is_word (area_text area) ≡ true
area_word area = grind (arith, nat_tests, decimal_word, base_word_text)

pub target_word : (target : Target) → is_word (target_text target) ≡ true
target_word (targets.Card dev base off) = simp (word-append, base_word_text, hex_number_word)
target_word (targets.Device dev) = grind (arith, nat_tests, decimal_word)
target_word target = grind (arith, nat_tests, decimal_word, offset_word, register_word)

pub denial_word : (denial : Option Denial) → is_word (denial_text denial) ≡ true
denial_word denial = grind (arith, nat_tests, register_word)

-- ---- fields

pub name_word : (name : List ℕ) → list_all is_name_byte name ≡ true → is_word name ≡ true
name_word [] each = refl
name_word (c ∷ name) each = grind (arith, nat_tests, name_word name (and_parts (is_name_byte c) _ each).1)

pub moment_word : (m : Moment) → is_word (moment_text m) ≡ true
moment_word m = grind (arith, nat_tests)

pub value_word : (bytes : ℕ) (value : Option ℕ) → is_word (value_text bytes value) ≡ true
value_word bytes value = grind (arith, nat_tests, hex_number_word)

abbrev pub are_words : List (List ℕ) → Bool
are_words texts = list_all is_word texts

-- ---- words and spaces

abbrev pub is_plain : List ℕ → Bool
is_plain bytes = list_all (λ b. eqb b space || is_word_byte b) bytes

pub plain-word : (xs : List ℕ) → is_word xs ≡ true → is_plain xs ≡ true
plain-word [] word = refl
plain-word (c ∷ cs) word = grind (arith, nat_tests, plain-word cs (and_parts (is_word_byte c) (is_word cs) word).1)

pub lacks-plain : (mark : ℕ) (xs : List ℕ) → (eqb mark space || is_word_byte mark) ≡ false → is_plain xs ≡ true →
    lacks mark xs ≡ true
lacks-plain mark [] outside plain = refl
lacks-plain mark (c ∷ cs) outside plain = grind (arith, nat_tests, lacks-plain mark cs outside)

-- ---- a line that spells words has just those fields

abbrev is_space : ℕ → Bool
is_space byte = eqb byte 32

spelled_fields : (line text : List ℕ) → Spells line text → Reads (fields_of line) (fields_of text)
spelled_fields [] [] spells = grind (arith, nat_tests, common_steps)
spelled_fields (c ∷ cs) (t ∷ ts) spells = grind (arith, nat_tests, common_steps, spelled_fields cs ts spells.1)
spelled_fields _ _ spells = grind (arith, nat_tests, common_steps)

-- ---- a line that is words joined

own_bytes : (word : List ℕ) → is_word word ≡ true → All (λ byte. is_space byte ≡ false) word
own_bytes word is = grind (arith, nat_tests, common_steps, All-nil, All-cons, lacks-first, lacks-later, lacks-word)

pub split_exact : (word : List ℕ) (words : List (List ℕ)) → are_words (word ∷ words) ≡ true
    → fields_of (join_with_byte space (word ∷ words)) ≡ word ∷ words
split_exact word [] are = slice_split_none is_space word (own_bytes word (and_parts (is_word word) _ are).0)
split_exact word (next ∷ words) are =
    grind (arith, nat_tests, slice_split_at, own_bytes, split_exact next words (and_parts (is_word word) _ are).1)

pub split : (line word : List ℕ) (words : List (List ℕ)) → are_words (word ∷ words) ≡ true →
    Spells line (join_with_byte space (word ∷ words)) → Reads (fields_of line) (word ∷ words)
split line word words are spells = rw (split_exact word words are) at (spelled_fields line _ spells)
