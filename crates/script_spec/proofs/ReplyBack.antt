-- A reply is read back from its words, and what is read has the shape of its event.
use Rattle.board_prelude.proofs.{eq-eqb, nat_tests, pow-le-pow_right, eqb-true, Kind, Write, WideAccess, Event, Wide}
use Rattle.board_prelude.proofs.{Part, Parts, Two, Three, Four, Reply, is_write, parts_from, parts_of, parts_list}
use Rattle.board_prelude.proofs.{space, hex_long, area_text, target_text, denial_text, value_bytes, value_text}
use Rattle.board_prelude.proofs.{reply_text, digits, option_map, Reg, Dev, Area, Target, Denial, byte, hex_digit}
use Rattle.board_prelude.proofs.{hex_byte, hex_number, hex_offset, register_text, device_text}
use Rattle.std.proofs.Common.{◌≡◌, ℕ, zero, suc, ◌^◌, ◌<◌, ◌≤◌, ◌↔◌, Bool, false, Option, Some, List, [], ◌∷◌, length}
use Rattle.std.proofs.Common.{All, refl, sym, ap, ◌∙◌, append_assoc, arith, decimal, IfSome, IsTrue, ◌*◌, ◌%◌, eqb}
use Rattle.std.proofs.Common.{◌++◌, codes}
use Rattle.board_spec.specs.declared.event.Event.TheVariants.{Look as LookAt}
use Rattle.script_spec.specs.Grammar.{IsDecimal}
use Rattle.script_spec.specs.WellFormed.{FitsPart, IsReplyValue, IsBusReply, IsWideReply, HasShape, FitsReg, FitsArea}
use Rattle.script_spec.specs.WellFormed.{FitsDevice, FitsTarget, FitsDenial}
use Rattle.script_spec.specs.Fields.{fields_of}
use Rattle.script_spec.specs.Numbers.{parse_decimal, parse_digit, number_after, parse_hex}
use Rattle.script_spec.specs.Replies.{parse_value, parse_bus_reply, parse_last_parts, parse_more_parts, parse_parts}
use Rattle.script_spec.specs.Replies.{part_count, parts_with, parse_wide_reply, parse_reply, parse_spaced_reply}
use Rattle.script_spec.specs.Replies.{bus_reply, look_reply, parse_part, parse_look_reply}
use Rattle.script_spec.specs.Cuts.{cut, parse_one_digit}
use Rattle.script_spec.specs.Targets.{parse_register, parse_denial, parse_placed_area, parse_area, parse_placed_target}
use Rattle.script_spec.specs.Targets.{parse_device, parse_target, parse_card_base, parse_card_target}
use Rattle.script_spec.proofs.Words.{line_spaced, words_of, words_in, reply_spaced, reply_are}
use Rattle.script_spec.proofs.PlainText.{split_exact}
use Rattle.script_spec.proofs.NumberTexts.{decimal_read, decimal_back, digit_so, hex_after, hex_back}
use Rattle.std.proofs.lemmas.Fmt.{decimal_digit}
use Rattle.board_base.specs.declared.target.Dev.TheVariants as devices
use Rattle.board_base.specs.declared.target.Target.TheVariants as targets
use Rattle.script_spec.proofs.Digits.{lacks-append, lacks-decimal, cut_field}
use Rattle.script_spec.proofs.Chains.{same, if_some}

-- ---- numbers

pub hex_read : (bytes n : ℕ) → n < 256 ^ bytes → parse_hex (2 * bytes) (hex_number bytes n) ≡ Some n
hex_read bytes n small = hex_back bytes n (hex_number bytes n) small (same (hex_number bytes n))

hex_digit_back : (n : ℕ) → parse_digit 16 (hex_digit n) ≡ Some (n % 16)
hex_digit_back n = grind (arith, nat_tests)

byte_back : (n : ℕ) → n < 0x100 → parse_hex 2 (hex_byte n) ≡ Some n
byte_back n small = let e : byte n 0 ≡ n = omega (arith, small) in grind (arith, hex_read 1 n)

nibble_back : (n : ℕ) → n < 16 → parse_hex 1 (hex_digit n ∷ []) ≡ Some n
unfolding number_after
nibble_back n small = grind (arith, nat_tests)

offset_back : (n : ℕ) → n < 0x10_0000 → parse_hex 5 (hex_offset n) ≡ Some n
unfolding number_after
offset_back n small = grind (arith, nat_tests, hex_digit_back, hex_after, same)

digit_back : (n : ℕ) → n < 10 → parse_one_digit (decimal n) ≡ Some n
unfolding parse_one_digit
digit_back n small = grind (arith, nat_tests, decimal_digit, digit_so)

-- ---- registers and denials

-- no digit is a point
digit_not : (n : ℕ) → eqb (hex_digit n) 0x2E ≡ false
digit_not n = grind (arith, nat_tests)

register_back : (reg : Reg) → FitsReg reg → parse_register (register_text reg) ≡ Some reg
unfolding parse_register cut
register_back reg fits = grind (arith, nat_tests, digit_not, byte_back, nibble_back)

pub denial_back : (denial : Option Denial) → FitsDenial denial → parse_denial (denial_text denial) ≡ Some denial
unfolding parse_denial parse_register cut
denial_back denial fits = grind (arith, nat_tests, register_back)

-- ---- areas

base_parts : (dev base : ℕ) → dev < 10 → base < 10
    → parse_card_base (decimal dev ++ codes "." ++ decimal base) ≡ Some (dev, base)
unfolding parse_card_base
base_parts dev base one two = grind (arith, nat_tests, append_assoc, cut_field, lacks-decimal, digit_back)

pub area_back : (area : Area) → FitsArea area → parse_area (area_text area) ≡ Some area
unfolding parse_area parse_placed_area cut
area_back area fits = grind (arith, nat_tests, digit_back, base_parts)

-- ---- targets

card_back : (dev base off : ℕ) → dev < 10 → base < 10 → off < 2 ^ 32
    → parse_card_target (decimal dev ++ codes "." ++ decimal base ++ codes ":" ++ hex_long off)
    ≡ Some (targets.Card dev base off)
unfolding parse_card_target
card_back dev base off one two three =
    grind (arith, nat_tests, append_assoc, cut_field, base_parts, hex_read 4, lacks-append, lacks-decimal)

device_back : (dev : Dev) → FitsDevice dev → parse_target (device_text dev) ≡ Some (targets.Device dev)
unfolding parse_target parse_device digits
device_back (devices.Vector (suc zero)) fits = refl
device_back (devices.Vector (suc (suc chip))) fits = absurd (omega (arith, fits))
device_back (devices.Spurious (suc zero)) fits = refl
device_back (devices.Spurious (suc (suc chip))) fits = absurd (omega (arith, fits))
device_back _ fits = refl

pub target_back : (target : Target) → FitsTarget target → parse_target (target_text target) ≡ Some target
unfolding parse_target parse_device parse_placed_target cut
target_back (targets.Card dev base off) fits = card_back dev base off fits.0 fits.1 fits.2
target_back (targets.Config reg) fits = ap (option_map targets.Config) (register_back reg fits)
target_back target fits = grind (arith, nat_tests, digit_back, offset_back, device_back)

-- the first field is empty
reply_fields : (bytes : ℕ) (reply : Reply) → fields_of (space ∷ reply_text bytes reply) ≡ [] ∷ words_in bytes reply
reply_fields bytes reply =
    ap fields_of (reply_spaced bytes reply ∙ sym (line_spaced [] (words_in bytes reply)))
    ∙ split_exact [] (words_in bytes reply) (reply_are bytes reply)

-- ---- from its words

value_back : (writes : Bool) (bytes : ℕ) (value : Option ℕ) → IsReplyValue writes bytes value
    → parse_value writes bytes (value_text bytes value) ≡ Some value
value_back writes bytes value fits = grind (arith, nat_tests, hex_read)

bus_back : (writes : Bool) (bytes : ℕ) (reply : Reply) → IsBusReply writes bytes reply
    → parse_bus_reply writes bytes (words_in bytes reply) ≡ Some reply
unfolding parse_bus_reply bus_reply
bus_back writes bytes reply fits = grind (arith, nat_tests, value_back, target_back, denial_back)

part_back : (part : Part) → FitsPart part → parse_part (target_text part.target) (denial_text part.denial) ≡ Some part
unfolding parse_part
part_back part fits = rw (target_back part.target fits.0, denial_back part.denial fits.1) refl

parts_back : (parts : Parts) → All FitsPart (parts_list parts) → parse_parts (words_of (parts_list parts)) ≡ Some parts
unfolding parse_parts parse_more_parts parse_last_parts
parts_back (Two a b) fits = grind (arith, nat_tests, part_back, fits 0 a, fits 1 a)
parts_back (Three a b c) fits = grind (arith, nat_tests, part_back, fits 0 a, fits 1 a, fits 2 a)
parts_back (Four a b c d) fits = grind (arith, nat_tests, part_back, fits 0 a, fits 1 a, fits 2 a, fits 3 a)

counted : (access : WideAccess) (most addr left : ℕ) → length (parts_from access most addr left) ≡ part_count most
    addr left
unfolding parts_from part_count
counted access zero addr left = refl
counted access (suc most) addr left = grind (arith, nat_tests, counted access most)

reply_back : (event : Event) (reply : Reply) → HasShape event reply → parse_reply event
    (words_in (value_bytes event) reply) ≡ Some reply
unfolding parse_reply parse_wide_reply parse_look_reply look_reply
reply_back (Wide access) reply shape = grind (arith, nat_tests, value_back, parts_back, eq-eqb, counted)
reply_back (LookAt kind addr smm) reply shape = grind (arith, nat_tests, decimal_back, hex_read 4, area_back)
reply_back event reply shape = grind (arith, nat_tests, bus_back)

pub reply_read : (event : Event) (reply : Reply) → HasShape event reply
    → parse_spaced_reply event (fields_of (space ∷ reply_text (value_bytes event) reply)) ≡ Some reply
unfolding parse_spaced_reply
reply_read event reply shape = grind (arith, nat_tests, reply_fields, reply_back)

-- ---- the shape of what was read

pub narrow_value : (writes : Bool) (bytes : ℕ) (value : Option ℕ) → bytes ≤ 4 → IsReplyValue writes bytes value
    → IfSome value (λ v. v < 2 ^ 32)
narrow_value writes bytes value few fits = grind (arith, nat_tests, pow-le-pow_right)

pub wide_shape : (access : WideAccess) (value : Option ℕ) (parts : Parts) →
    IsReplyValue (is_write access.kind) access.bytes value → All FitsPart (parts_list parts) →
    IfSome (parts_with access value parts) (IsWideReply (is_write access.kind) access.bytes (length (parts_of access)))
wide_shape access value parts fits each = grind (arith, nat_tests, eqb-true, counted)

pub writes_is : (kind : Kind) (writes : Bool) → (IsTrue writes ↔ kind ≡ Write) → writes ≡ is_write kind
writes_is kind writes same = grind (arith, nat_tests)

pub decimal_below : (field : List ℕ) (found : Option ℕ) → found ≡ parse_decimal field → IfSome found IsDecimal
decimal_below field found is = if_some found IsDecimal (λ n e. (decimal_read field n (sym is ∙ e)).1)
