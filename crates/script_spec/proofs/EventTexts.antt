-- Fields are read as an event exactly where they spell it.
use Rattle.std.proofs.Common.{◌≡◌, ℕ, ◌*◌, ◌^◌, ◌<◌, Bool, true, false, Some, List, [], ◌∷◌, refl, ap, arith, codes}
use Rattle.std.proofs.Common.{IfSome, decimal, if◌then◌else◌}
use Rattle.board_prelude.proofs.{nat_tests, option_map, Kind, Write, Width, Moment, bytes_of, Event, Memory, Wide, Port}
use Rattle.board_prelude.proofs.{Ack, Time, Pulses, Wire, Line, BadSector, Stimulus, stimulus_form, applied}
use Rattle.board_prelude.proofs.{event_applied, is_write, FitsBytes, hex_number, size_text, width_text, kind_text}
use Rattle.board_prelude.proofs.{moment_text}
use Rattle.board_spec.specs.declared.event.Event.TheVariants.{Look as LookAt}
use Rattle.board_spec.specs.declared.stimulus.Stimulus.TheVariants as stimuli
use Rattle.script_spec.specs.Grammar.{Item, IsDecimal, IsMomentForm, IsEventForm}
use Rattle.script_spec.specs.Events.{IsSize, parse_size, parse_width, parse_kind, parse_smm, memory_event, parse_read}
use Rattle.script_spec.specs.Events.{parse_write, parse_in, parse_out, parse_look, parse_ack, parse_number}
use Rattle.script_spec.specs.Events.{parse_two_numbers, parse_given, read_event, write_event, in_event, out_event}
use Rattle.script_spec.specs.Events.{look_event}
use Rattle.script_spec.specs.Numbers.{parse_hex}
use Rattle.script_spec.specs.Items.{parse_stimulus_item, ask, parse_only_moment, parse_time_item, parse_by_verb}
use Rattle.script_spec.specs.Items.{parse_statement_words}
use Rattle.script_spec.proofs.Chains.{some_is, then_read, Spells, Reads, same, same_as, word_is}
use Rattle.script_spec.proofs.Digits.{digits_of_decimal}
use Rattle.script_spec.proofs.NumberTexts.{hex_read, decimal_if, hex_if, is_plain, plain_is, plain-digits, decimal_back}
use Rattle.script_spec.proofs.NumberTexts.{hex_back}
use Rattle.script_spec.proofs.Moments.{moment_back, plain_moment, moment_if}
use Rattle.script_spec.proofs.Words.{smm_words, written_words, access_words, applied_words, event_words, zero_text}
use Rattle.script_spec.proofs.Words.{one_text}

-- ---- letters

size_back : (version bytes : ℕ) (field : List ℕ) → IsSize version bytes → Spells field (size_text bytes)
    → parse_size version field ≡ Some bytes
size_back version bytes field size spells = grind (arith, nat_tests, plain_is)

size_read : (version : ℕ) (field : List ℕ) (bytes : ℕ) → parse_size version field ≡ Some bytes →
    (field ≡ size_text bytes) × IsSize version bytes
size_read version field bytes e = grind (arith, nat_tests, word_is)

width_back : (width : Width) (field : List ℕ) → Spells field (width_text width) → parse_width field ≡ Some width
width_back width field spells = grind (arith, nat_tests, plain_is)

width_if : (field : List ℕ) → IfSome (parse_width field) (λ width. field ≡ width_text width)
width_if field = grind (arith, nat_tests, word_is)

kind_back : (kind : Kind) (field : List ℕ) → Spells field (kind_text kind) → parse_kind field ≡ Some kind
kind_back kind field spells = grind (arith, nat_tests, plain_is)

kind_read : (field : List ℕ) (kind : Kind) → parse_kind field ≡ Some kind → field ≡ kind_text kind
kind_read field kind e = grind (arith, nat_tests, word_is)

smm_back : (smm : Bool) (flags : List (List ℕ)) → Reads flags (smm_words smm) → parse_smm flags ≡ Some smm
unfolding parse_smm
smm_back smm flags reads = grind (arith, nat_tests, plain_is)

smm_read : (flags : List (List ℕ)) (smm : Bool) → parse_smm flags ≡ Some smm → Reads flags (smm_words smm)
unfolding parse_smm
smm_read flags smm e = grind (arith, nat_tests, same_as, word_is)

-- ---- what is spelled is read: accesses

-- the verb stands for itself alone
with_verb : (version actor : ℕ) (verb : List ℕ) (words : List (List ℕ)) (item : Item) → is_plain verb ≡ true
    → ((rest : List (List ℕ)) → Reads rest words → parse_by_verb version actor verb rest ≡ Some item)
    → (fields : List (List ℕ)) → Reads fields (verb ∷ words) → parse_statement_words version actor fields ≡ Some item
unfolding parse_statement_words
with_verb version actor verb words item plain read fields reads = grind (arith, nat_tests, plain_is)

access_back : (version actor : ℕ) (kind : Kind) (bytes addr value : ℕ) (smm : Bool) (fields : List (List ℕ))
    → IsSize version bytes → addr < 2 ^ 32 → FitsBytes (is_write kind) bytes value
    → Reads fields (access_words kind bytes addr value smm)
    → parse_statement_words version actor fields ≡ Some (ask actor (memory_event version kind bytes addr value smm))
unfolding parse_by_verb parse_read read_event parse_write write_event
access_back version actor Write bytes addr value smm fields size small fits =
    with_verb _ _ _ _ _ refl (λ rest reads. grind (arith, nat_tests, smm_back, size_back, hex_back 4, hex_back bytes)) _
access_back version actor kind bytes addr value smm fields size small none =
    with_verb version actor (kind_text kind) _ _ refl
    (λ rest reads. grind (arith, nat_tests, smm_back, size_back, hex_back 4)) fields

-- ---- ports

port_back : (version actor : ℕ) (write : Bool) (width : Width) (port value : ℕ) (fields : List (List ℕ))
    → port < 2 ^ 16 → FitsBytes write (bytes_of width) value
    → Reads fields ((if write then codes "out" else codes "in") ∷ width_text width ∷ hex_number 2 port
    ∷ written_words write (bytes_of width) value [])
    → parse_statement_words version actor fields
    ≡ Some (ask actor (Port (record { write = write; port = port; width = width; value = value })))
unfolding parse_by_verb parse_in in_event parse_out out_event
port_back version actor true width port value fields small fits =
    with_verb version actor (codes "out") _ _ refl
    (λ rest reads. grind (arith, nat_tests, width_back, hex_back 2, hex_back (bytes_of width))) fields
port_back version actor false width port value fields small none =
    with_verb version actor (codes "in") _ _ refl
    (λ rest reads. grind (arith, nat_tests, width_back, hex_back 2)) fields

-- ---- stimuli

-- a decimal stands for itself alone
pub number_is : (n : ℕ) (field : List ℕ) → IsDecimal n → Spells field (decimal n) → field ≡ decimal n
number_is n field small spells = grind (arith, nat_tests, plain_is, plain-digits, digits_of_decimal)

-- a number and a level
pub two_back : (m n : ℕ) (words : List (List ℕ)) → IsDecimal m → IsDecimal n → Reads words (decimal m ∷ decimal n ∷ [])
    → parse_two_numbers words ≡ Some (m, n)
unfolding parse_two_numbers
two_back m n words small few reads = grind (arith, nat_tests, number_is, decimal_back)

applied_back : (version actor : ℕ) (one : Stimulus) (number : ℕ) (on : Bool) (fields : List (List ℕ))
    → IsDecimal number → Reads fields (applied_words (applied one number on))
    → parse_statement_words version actor fields ≡ Some (ask actor (event_applied one number on))
unfolding parse_given parse_number parse_by_verb parse_stimulus_item
applied_back version actor one number on fields small =
    with_verb version actor (stimulus_form one).word _ _ (grind (arith, nat_tests))
    (λ rest reads. grind (arith, nat_tests, two_back, zero_text, one_text, number_is, decimal_back)) fields

time_back : (moment : Moment) (words : List (List ℕ)) → IsMomentForm moment → Reads words (moment_text moment ∷ [])
    → parse_only_moment words ≡ Some moment
unfolding parse_only_moment
time_back moment (field ∷ []) form reads = grind (arith, nat_tests, plain_is, plain_moment, moment_back)
time_back moment _ form reads = grind arith

-- ---- all events

pub event_back : (version actor : ℕ) (event : Event) (fields : List (List ℕ)) → IsEventForm version event
    → Reads fields (event_words event) → parse_statement_words version actor fields ≡ Some (ask actor event)
unfolding parse_by_verb parse_time_item parse_look look_event parse_ack memory_event
event_back version actor (Memory access) fields form reads =
    let read = access_back version actor access.kind (bytes_of access.width) access.addr access.value access.smm fields
    (grind (arith, nat_tests)) form.addr form.value reads in
    grind (arith, nat_tests, form.aligned)
event_back version actor (Wide access) fields form reads =
    let read = access_back version actor access.kind access.bytes access.addr access.value access.smm fields
    (grind (arith, nat_tests, form.second, form.bytes)) form.addr form.value reads in
    grind (arith, nat_tests, form.wide)
event_back version actor (Port access) fields form reads =
    port_back version actor access.write access.width access.port access.value fields form.port form.value reads
event_back version actor (LookAt kind addr smm) fields form reads =
    with_verb version actor (codes "look") _ _ refl
    (λ rest reads. grind (arith, nat_tests, smm_back, kind_back, hex_back 4)) fields reads
event_back version actor Ack fields form reads =
    with_verb version actor (codes "ack") _ _ refl (λ rest reads. grind (arith, nat_tests)) fields reads
event_back version actor (Time moment) fields form reads =
    with_verb version actor (codes "moment") _ _ refl
    (λ rest reads. ap (option_map (λ m. ask actor (Time m))) (time_back moment rest form reads)) fields reads
event_back version actor (Pulses count) fields form reads =
    applied_back version actor stimuli.Pulses count false fields form reads
event_back version actor (Wire dev on) fields form reads =
    applied_back version actor stimuli.Wire dev on fields form reads
event_back version actor (Line irq on) fields form reads =
    applied_back version actor stimuli.Line irq on fields form reads
event_back version actor (BadSector sector) fields form reads =
    applied_back version actor stimuli.BadSector sector false fields form reads

-- ---- what is read is spelled

-- fields spell an event
abbrev pub IsRead : (version : ℕ) → (fields : List (List ℕ)) → Event → Type 0
IsRead version fields event = Reads fields (event_words event) × IsEventForm version event

access_read : (version : ℕ) (kind : Kind) (bytes addr value : ℕ) (smm : Bool) (fields : List (List ℕ))
    → IsSize version bytes → addr < 2 ^ 32 → FitsBytes (is_write kind) bytes value
    → Reads fields (access_words kind bytes addr value smm)
    → IsRead version fields (memory_event version kind bytes addr value smm)
unfolding memory_event
access_read version kind bytes addr value smm fields size small fits reads = grind (arith, nat_tests)

pub read_read : (version : ℕ) (kind : Kind) (words : List (List ℕ)) → is_write kind ≡ false → (event : Event) →
    parse_read version kind words ≡ Some event → IsRead version (kind_text kind ∷ words) event
unfolding parse_read read_event
read_read version kind (size ∷ addr ∷ flags) reads event e =
    let s = then_read (parse_smm flags) _ event (smm_read flags) e in
    let b = then_read (parse_size version size) _ event (size_read version size) s.2 in
    let a = then_read (parse_hex 8 addr) _ event (hex_read 4 addr) b.2 in
    rw (← some_is _ event a.2) (access_read version kind b.0 a.0 0 s.0 (kind_text kind ∷ size ∷ addr ∷ flags) b.1.1
    (omega (arith, a.1.1)) (rw reads refl) (rw reads (same _, (same_as _ _ b.1.0, (a.1.0, s.1)))))
read_read version kind _ reads event e = absurd cc

pub write_read : (version : ℕ) (words : List (List ℕ)) (event : Event) → parse_write version words ≡ Some event →
    IsRead version (codes "w" ∷ words) event
unfolding parse_write write_event
write_read version (size ∷ addr ∷ value ∷ flags) event e =
    let s = then_read (parse_smm flags) _ event (smm_read flags) e in
    let b = then_read (parse_size version size) _ event (size_read version size) s.2 in
    let a = then_read (parse_hex 8 addr) _ event (hex_read 4 addr) b.2 in
    let v = then_read (parse_hex (2 * b.0) value) _ event (hex_read b.0 value) a.2 in
    rw (← some_is _ event v.2) (access_read version Write b.0 a.0 v.0 s.0 (codes "w" ∷ size ∷ addr ∷ value ∷ flags)
    b.1.1 (omega (arith, a.1.1)) v.1.1 (same (codes "w"), (same_as _ _ b.1.0, (a.1.0, (v.1.0, s.1)))))
write_read version _ event e = absurd cc

pub in_if : (version : ℕ) (words : List (List ℕ)) → IfSome (parse_in words) (IsRead version (codes "in" ∷ words))
unfolding parse_in in_event
in_if version (width ∷ port ∷ []) = grind (arith, width_if width, hex_if 2 port, same, same_as)
in_if version _ = tt

pub out_if : (version : ℕ) (words : List (List ℕ)) → IfSome (parse_out words) (IsRead version (codes "out" ∷ words))
unfolding parse_out out_event
out_if version (width ∷ port ∷ value ∷ []) =
    grind (arith, width_if width, hex_if 2 port, hex_if 1 value, hex_if 2 value, hex_if 4 value, same, same_as)
out_if version _ = tt

pub look_read : (version : ℕ) (words : List (List ℕ)) (event : Event) → parse_look words ≡ Some event →
    IsRead version (codes "look" ∷ words) event
unfolding parse_look look_event
look_read version (kind ∷ addr ∷ flags) event e =
    let s = then_read (parse_smm flags) _ event (smm_read flags) e in
    let k = then_read (parse_kind kind) _ event (kind_read kind) s.2 in
    let a = then_read (parse_hex 8 addr) _ event (hex_read 4 addr) k.2 in
    rw (← some_is _ event a.2) ((same (codes "look"), (same_as _ _ k.1, (a.1.0, s.1))), omega (arith, a.1.1))
look_read version _ event e = absurd cc

pub time_if : (version : ℕ) (words : List (List ℕ)) →
    IfSome (parse_only_moment words) (λ m. IsRead version (codes "moment" ∷ words) (Time m))
unfolding parse_only_moment
time_if version (field ∷ []) = grind (arith, moment_if field, same (codes "moment"), same_as field)
time_if version _ = tt

-- ---- numbers, and levels

-- the only field is a decimal
pub number_if : (words : List (List ℕ)) → IfSome (parse_number words) (λ n. (words ≡ decimal n ∷ []) × IsDecimal n)
unfolding parse_number
number_if (field ∷ []) = grind (arith, decimal_if field)
number_if _ = tt

pub two_if : (words : List (List ℕ)) →
    IfSome (parse_two_numbers words) (λ p. (words ≡ decimal p.0 ∷ decimal p.1 ∷ []) × IsDecimal p.0 × IsDecimal p.1)
unfolding parse_two_numbers
two_if (first ∷ second ∷ []) = grind (arith, decimal_if first, decimal_if second)
two_if _ = tt
