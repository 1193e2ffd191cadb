-- A text is cut at a byte, and a line of a log names its processor. How many digits a number has.
use Rattle.std.proofs.Common.{ℕ, ◌≡◌, ◌≢◌, ◌+◌, ◌-◌, ◌<◌, ◌≤◌, IfSome, slice_index_or, true, cond, ltb, List, [], ◌∷◌}
use Rattle.std.proofs.Common.{◌++◌, length, take, drop, All, Option, Some, None, Result, refl, ap, ◌∙◌, inl}
use Rattle.std.proofs.Common.{append_assoc, arith, decimal, codes, MatchResult, ◌==◌, ◌/◌, ◌^◌}
use Rattle.board_prelude.proofs.{length-append, length-drop, common_steps, nat_tests, position, position_or_len}
use Rattle.board_prelude.proofs.{result_ok, eq-eqb, ne_eqb, eqb-false, lt-ltb, cond-true, take_all, All-nil, All-cons}
use Rattle.board_prelude.proofs.{All-head, All-tail, Entry, space, event_text, value_bytes, reply_text, line_text}
use Rattle.board_prelude.proofs.{take-append_seam}
use Rattle.std.proofs.lemmas.Fmt.{decimal_injective, decimal_digit, decimal_step, length-decimal-le_succ}
use Rattle.std.proofs.Math.Seq.{drop-append-add}
use Rattle.script_spec.proofs.Digits.{lacks, front, front-field, lacks-first, lacks-later, lacks-decimal}

-- ---- the first byte of a kind

length_before : (mark : ℕ) (before after : List ℕ) → All (λ byte. byte ≢ mark) before →
    position_or_len (λ byte. byte == mark) (before ++ mark ∷ after) ≡ length before
length_before mark [] after apart = rw (eq-eqb mark mark refl) refl
length_before mark (c ∷ cs) after apart =
    let here = ne_eqb c mark (All-head (λ byte. byte ≢ mark) c cs apart) in
    rw (here, length_before mark cs after (All-tail (λ byte. byte ≢ mark) c cs apart)) (omega arith)

position_of_mark : (mark : ℕ) (before after : List ℕ) → All (λ byte. byte ≢ mark) before →
    position (λ byte. byte == mark) (before ++ mark ∷ after) ≡ Some (length before)
position_of_mark mark before after apart =
    grind (arith, nat_tests, common_steps, position_or_len, length_before, length-append, cond, ltb, cond-true, lt-ltb)

take_rest : (n : ℕ) (bytes : List ℕ) → take (length bytes - n) (drop n bytes) ≡ drop n bytes
take_rest n bytes = grind (arith, nat_tests, common_steps, length-drop, take_all)

-- what stands after the mark
pub past_mark : (mark at : ℕ) (bytes before after : List ℕ) → bytes ≡ before ++ mark ∷ after → at ≡ length before →
    take (length bytes - (at + 1)) (drop (at + 1) bytes) ≡ after
past_mark mark at bytes before after is place = grind (arith, nat_tests, common_steps, take_rest, is, drop-append-add)

pub ruleset after_marks = (past_mark, length-append)

-- and what stands before it
pub cut_at_mark : (mark at : ℕ) (bytes before after : List ℕ) → All (λ byte. byte ≢ mark) before →
    bytes ≡ before ++ mark ∷ after → position (λ byte. byte == mark) bytes ≡ Some at →
    (take at bytes ≡ before) × (take (length bytes - (at + 1)) (drop (at + 1) bytes) ≡ after)
cut_at_mark mark at bytes before after apart is found =
    grind (arith, nat_tests, common_steps, position, is, position_of_mark, take-append_seam, past_mark)

pub not_lost : (mark : ℕ) (bytes before after : List ℕ) → All (λ byte. byte ≢ mark) before →
    bytes ≡ before ++ mark ∷ after → position (λ byte. byte == mark) bytes ≡ None → ⊥
not_lost mark bytes before after apart is lost = grind (arith, nat_tests, common_steps, position, is, position_of_mark)

-- the value where a result is read
pub the_value : {T E : Type 0} (P : T → Type 0) (Q : E → Type 0) (result : Result T E) (value : T) →
    MatchResult result P Q → result_ok result ≡ Some value → P value
the_value P Q result value holds some = grind (arith, nat_tests)

-- ---- the processor of a line

-- no byte of a number is a full stop
pub lacks_stop : (n : ℕ) → n < 256 → lacks 0x2E (decimal n) ≡ true
lacks_stop n small = lacks-decimal 0x2E n (inl (omega arith)) (omega (arith, small))

eight_parts : (a b c d e f g h : List ℕ) →
    a ++ b ++ c ++ d ++ e ++ f ++ g ++ h ≡ a ++ (b ++ (c ++ (d ++ (e ++ (f ++ (g ++ h))))))
eight_parts a b c d e f g h = simp append_assoc

-- it stands after the number of the line
pub named : (n : ℕ) (entry : Entry) (after : List ℕ) →
    (later : List ℕ) × (line_text n entry ++ after ≡ decimal n ++ space ∷ (decimal entry.actor ++ 0x2E ∷ later))
unfolding line_text
named n entry after = (
  _,
  eight_parts (decimal n) (space ∷ decimal entry.actor) (codes ".") (decimal entry.seq)
      (space ∷ event_text entry.event) (codes " = ") (reply_text (value_bytes entry.event) entry.reply) after,
)

apart_from : (mark : ℕ) (bytes : List ℕ) → lacks mark bytes ≡ true → All (λ byte. byte ≢ mark) bytes
apart_from mark bytes lack =
    grind (arith, nat_tests, common_steps, All-nil, All-cons, eqb-false, lacks-first, lacks-later)

pub decimal_apart : (n : ℕ) → n < 256 → All (λ byte. byte ≢ 0x2E) (decimal n)
decimal_apart n small = apart_from 0x2E (decimal n) (lacks_stop n small)

pub two_first : (bytes : List ℕ) → 2 ≤ length bytes
    → bytes ≡ slice_index_or bytes 0 0 ∷ slice_index_or bytes 1 0 ∷ drop 2 bytes
two_first bytes some = grind (arith, nat_tests, common_steps)

-- a digit before a full stop is the number that stands before the first one
pub single_if :
    (digit : Option ℕ) (bytes : List ℕ) → 2 ≤ length bytes → slice_index_or bytes 1 0 ≡ 0x2E →
    IfSome digit (λ d. decimal d ≡ slice_index_or bytes 0 0 ∷ []) → IfSome digit (λ d. d < 10) →
    IfSome digit (λ d. (number : ℕ) (after : List ℕ) → number < 256 → bytes ≡ decimal number ++ 0x2E ∷ after →
    number ≡ d)
single_if None bytes some stop is small = tt
single_if (Some d) bytes some stop is small = λ number after less other.
    let one : bytes ≡ decimal d ++ 0x2E ∷ drop 2 bytes = rw is (rw stop at (two_first bytes some)) in
    let first = front-field 0x2E (decimal d) (drop 2 bytes) (lacks_stop d (omega (arith, small))) in
    let second = front-field 0x2E (decimal number) after (lacks_stop number less) in
    decimal_injective number d (omega (arith, less)) (omega (arith, small))
    (cc (ap (front 0x2E) one, ap (front 0x2E) other))

-- ---- digits

pub one_digit : (n : ℕ) → n < 10 → length (decimal n) ≡ 1
one_digit n below = ap length (decimal_digit n below)

pub one_more : (n : ℕ) → 10 ≤ n → n < 2 ^ 64 → length (decimal n) ≡ length (decimal (n / 10)) + 1
one_more n large fits = ap length (decimal_step n large fits) ∙ length-append (decimal (n / 10)) _

pub ruleset digit_counts = (one_digit, one_more)

-- without its last five a number has five digits less
pub five_more : (n : ℕ) → 100000 ≤ n → n < 2 ^ 64 → length (decimal n) ≡ length (decimal (n / 100000)) + 5
five_more n large fits = grind (arith, nat_tests, common_steps, one_more, decimal)

pub ruleset more_digits = (five_more, length-decimal-le_succ)
