-- The fields of each event and of each reply, which its text joins: they are words.
use Rattle.std.proofs.Common.{◌≡◌, ℕ, Bool, true, false, List, [], ◌∷◌, ◌++◌, refl, ap, append_assoc, append-nil, arith}
use Rattle.std.proofs.Common.{lit<, sym, ◌∙◌, ◌&&◌, flat_map, codes, decimal, if◌then◌else◌}
use Rattle.board_prelude.proofs.{join_with_byte, nat_tests, Kind, bytes_of, Event, Memory, Wide, Port, Ack, Time}
use Rattle.board_prelude.proofs.{Stimulus, Applied, stimulus_form, applied, event_applied, applied_by, option_map_or}
use Rattle.board_prelude.proofs.{is_write, space, hex_number, size_text, width_text, kind_text, level_text, moment_text}
use Rattle.board_prelude.proofs.{event_text, Part, Reply, Bus, Saw, parts_list, hex_long, area_text, target_text}
use Rattle.board_prelude.proofs.{denial_text, value_text, reply_text}
use Rattle.script_spec.proofs.Digits.{own}
use Rattle.std.proofs.lemmas.Fmt.{decimal-digits_value}
use Rattle.board_spec.specs.declared.event.Event.TheVariants.{Look as LookAt}
use Rattle.board_spec.specs.declared.event.Reply.TheVariants.{Parts as InParts}
use Rattle.script_spec.proofs.PlainText.{is_word, are_words, is_plain, plain-word, hex_number_word, decimal_word}
use Rattle.script_spec.proofs.PlainText.{moment_word, value_word, area_word, target_word, denial_word}
use Rattle.std.proofs.lemmas.List.Folds.{list_all-append}

-- each word after a space
abbrev pub spaced : List (List ℕ) → List ℕ
spaced words = flat_map (λ word. space ∷ word) words

pub line_spaced : (first : List ℕ) (words : List (List ℕ))
    → join_with_byte space (first ∷ words) ≡ first ++ spaced words
line_spaced first [] = sym (append-nil first)
line_spaced first (word ∷ words) = ap (λ (rest : List ℕ). first ++ (space ∷ rest)) (line_spaced word words)

-- ---- the fields of events

-- the flag of an access
abbrev pub smm_words : Bool → List (List ℕ)
smm_words false = []
smm_words true = codes "smm" ∷ []

-- a value, where one is written
abbrev pub written_words : (writes : Bool) → (bytes value : ℕ) → List (List ℕ) → List (List ℕ)
written_words true bytes value flags = hex_number bytes value ∷ flags
written_words false bytes value flags = flags

abbrev pub access_words : Kind → (bytes addr value : ℕ) → Bool → List (List ℕ)
access_words kind bytes addr value smm =
    kind_text kind ∷ size_text bytes ∷ hex_number 4 addr ∷ written_words (is_write kind) bytes value (smm_words smm)

-- the number of a stimulus, and its level where it has one
abbrev pub given_words : (has_level : Bool) → (number level : List ℕ) → List (List ℕ)
given_words true number level = number ∷ level ∷ []
given_words false number level = number ∷ []

abbrev pub applied_words : Applied → List (List ℕ)
applied_words said =
    (stimulus_form said.stimulus).word
    ∷ given_words (stimulus_form said.stimulus).has_level (decimal said.number) (level_text said.on)

abbrev pub event_words : Event → List (List ℕ)
event_words (Memory access) = access_words access.kind (bytes_of access.width) access.addr access.value access.smm
event_words (Wide access) = access_words access.kind access.bytes access.addr access.value access.smm
event_words (Port access) =
    (if access.write then codes "out" else codes "in") ∷ width_text access.width ∷ hex_number 2 access.port
    ∷ written_words access.write (bytes_of access.width) access.value []
event_words (LookAt kind addr smm) = codes "look" ∷ kind_text kind ∷ hex_number 4 addr ∷ smm_words smm
event_words Ack = codes "ack" ∷ []
event_words (Time moment) = codes "moment" ∷ moment_text moment ∷ []
event_words event = option_map_or applied_words (applied_by event) []

pub zero_text : decimal 0 ≡ codes "0"
zero_text = decimal-digits_value own (48 ∷ []) (lit< tt, tt) (lit< tt) (λ _. refl) (lit< tt)

pub one_text : decimal 1 ≡ codes "1"
one_text = decimal-digits_value own (49 ∷ []) (lit< tt, tt) (lit< tt) (λ _. refl) (lit< tt)

-- ---- they make its text

pub event_joined : (event : Event) → join_with_byte space (event_words event) ≡ event_text event
unfolding event_text
event_joined event = grind (arith, nat_tests, append-nil, append_assoc)

-- ---- they are words

kind_is : (kind : Kind) → is_word (kind_text kind) ≡ true
kind_is kind = grind (arith, nat_tests)

size_is : (bytes : ℕ) → is_word (size_text bytes) ≡ true
size_is bytes = grind (arith, nat_tests)

access_are : (k s h : List ℕ) (writes : Bool) (bytes value : ℕ) (smm : Bool) → is_word k ≡ true → is_word s ≡ true
    → is_word h ≡ true → are_words (k ∷ s ∷ h ∷ written_words writes bytes value (smm_words smm)) ≡ true
access_are k s h writes bytes value smm one two three = grind (arith, nat_tests, hex_number_word)

pub event_are : (event : Event) → are_words (event_words event) ≡ true
event_are (Memory access) =
    access_are (kind_text access.kind) (size_text (bytes_of access.width)) (hex_number 4 access.addr)
    (is_write access.kind) (bytes_of access.width) access.value access.smm (kind_is access.kind)
    (size_is (bytes_of access.width)) (hex_number_word 4 access.addr)
event_are (Wide access) =
    access_are (kind_text access.kind) (size_text access.bytes) (hex_number 4 access.addr) (is_write access.kind)
    access.bytes access.value access.smm (kind_is access.kind) (size_is access.bytes) (hex_number_word 4 access.addr)
event_are (Port access) =
    access_are (if access.write then codes "out" else codes "in") (width_text access.width) (hex_number 2 access.port)
    access.write (bytes_of access.width) access.value false (grind (arith, nat_tests)) (size_is (bytes_of access.width))
    (hex_number_word 2 access.port)
event_are (LookAt kind addr smm) =
    access_are (codes "look") (kind_text kind) (hex_number 4 addr) false 0 0 smm refl (kind_is kind)
    (hex_number_word 4 addr)
event_are (Time moment) = ap (λ (b : Bool). b && true) (moment_word moment)
event_are event = grind (arith, nat_tests, decimal_word)

pub applied_is : (one : Stimulus) (number : ℕ) (on : Bool)
    → event_words (event_applied one number on) ≡ applied_words (applied one number on)
applied_is one number on = grind (arith, nat_tests)

-- ---- the fields of replies

abbrev pub words_of : List Part → List (List ℕ)
words_of [] = []
words_of (part ∷ later) = target_text part.target ∷ denial_text part.denial ∷ words_of later

abbrev pub words_in : (bytes : ℕ) → Reply → List (List ℕ)
words_in bytes (Bus value target denial) = value_text bytes value ∷ target_text target ∷ denial_text denial ∷ []
words_in bytes (InParts parts value) = value_text bytes value ∷ words_of (parts_list parts)
words_in bytes (Saw look) = decimal look.version ∷ hex_long look.lo ∷ hex_long look.hi ∷ area_text look.area ∷ []

pub reply_spaced : (bytes : ℕ) (reply : Reply) → space ∷ reply_text bytes reply ≡ spaced (words_in bytes reply)
unfolding reply_text
reply_spaced bytes reply = grind (arith, nat_tests, append-nil, append_assoc)

parts_are : (parts : List Part) → are_words (words_of parts) ≡ true
parts_are [] = refl
parts_are (part ∷ later) = grind (arith, nat_tests, target_word, denial_word, parts_are later)

pub reply_are : (bytes : ℕ) (reply : Reply) → are_words (words_in bytes reply) ≡ true
reply_are bytes (Saw look) = grind (arith, nat_tests, decimal_word, hex_number_word 4, area_word)
reply_are bytes reply = grind (arith, nat_tests, value_word, target_word, denial_word, parts_are)

-- ---- so the texts are words and spaces

plain-spaced : (words : List (List ℕ)) → are_words words ≡ true → is_plain (spaced words) ≡ true
plain-spaced [] are = refl
plain-spaced (word ∷ words) are = grind (arith, nat_tests, list_all-append, plain-word, plain-spaced words)

plain-joined : (words : List (List ℕ)) → are_words words ≡ true → is_plain (join_with_byte space words) ≡ true
plain-joined [] are = refl
plain-joined (first ∷ words) are = ap is_plain (line_spaced first words) ∙ plain-spaced (first ∷ words) are

pub event_plain : (event : Event) → is_plain (event_text event) ≡ true
event_plain event = ap is_plain (sym (event_joined event)) ∙ plain-joined (event_words event) (event_are event)

pub reply_plain : (bytes : ℕ) (reply : Reply) → is_plain (reply_text bytes reply) ≡ true
reply_plain bytes reply =
    ap is_plain (reply_spaced bytes reply) ∙ plain-spaced (words_in bytes reply) (reply_are bytes reply)
