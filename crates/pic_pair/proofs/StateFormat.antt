-- The state of the pair is spelled and read back.
use Rattle.std.proofs.Common.{◌≡◌, ℕ, zero, suc, ◌+◌, ◌*◌, ◌^◌, ◌<◌, ◌≤◌, Bool, true, false, eqb, List, [], ◌∷◌, length}
use Rattle.std.proofs.Common.{take, drop, refl, sym, ap, ◌∙◌, arith, if◌then◌else◌}
use Rattle.std.proofs.Math.Nat.{pow-succ'}
use Rattle.std.proofs.lemmas.List.{take_at, drop_at, take-append-drop, length-take, length-drop, length-append}
use Rattle.std.proofs.lemmas.List.{get_or_past}
use Rattle.board_base.specs.Bits.{is_bit}
use Rattle.device_spec.specs.Levels.{has, levels_where, levels_of_byte, byte_of_levels, Levels}
use Rattle.device_spec.proofs.Levels.{levels_where-same, levels_where-has}
use Rattle.std.proofs.lemmas.Bool.Decides.{nat_tests}
use Rattle.device_spec.specs.Pic.{Word}
use Rattle.byte_fields.proofs.Formats.{IsFormat, fields_format, ◌then◌, ◌&◌, last_field}
use Rattle.byte_fields.proofs.Numbers.{Any, byte_to, flag_format}
use Rattle.pic_pair.specs.State.{awaited_byte, words_of, AreAwaited, sets_of, modes_of, AreSets, sets_bytes}
use Rattle.pic_pair.specs.State.{modes_bytes, sets_fields, modes_fields, IsChip, chip_bytes, chip_fields, IsPair}
use Rattle.pic_pair.specs.State.{pair_bytes, pair_fields, AreLines, lines_bytes, lines_fields}
use Rattle.std.proofs.lemmas.Nat.Bits.{bit_at-suc, bit_at-zero}
use Rattle.pic_pair.proofs.LevelLemmas.{byte-levels}

-- ---- sets and their bytes

byte_again : (n : ℕ) → n ≤ 255 → byte_of_levels (levels_of_byte n) ≡ n
byte_again n few = sym (byte-levels n (omega (arith, few)))

bit_worth : Bool → ℕ
bit_worth b = if b then 1 else 0

worth_small : (b : Bool) → bit_worth b < 2
unfolding bit_worth
worth_small b = grind (arith, nat_tests)

bits_of : (set : Levels) (k : ℕ) → is_bit (byte_of_levels set) k ≡ has set k
unfolding byte_of_levels bit_worth
bits_of [] k = ap (λ x. eqb x 1) (bit_at-zero k) ∙ sym (get_or_past [] k false (omega arith))
bits_of (b ∷ later) zero = grind (arith, nat_tests)
bits_of (b ∷ later) (suc k) = (grind (arith, nat_tests, bit_worth, worth_small, eqb, bit_at-suc)) ∙ bits_of later k

set_again : (set : Levels) → length set ≡ 8 → set ≡ levels_of_byte (byte_of_levels set)
set_again set eight =
    sym (levels_where-same (is_bit (byte_of_levels set)) (λ k. has set k) (λ k below. bits_of set k)
    ∙ levels_where-has set eight)

few : (set : Levels) → byte_of_levels set + 1 ≤ 2 ^ length set
unfolding byte_of_levels bit_worth
few [] = omega arith
few (b ∷ later) =
    let twice : 2 ^ length (b ∷ later) ≡ 2 * 2 ^ length later = pow-succ' 2 (length later) in
    omega (arith, twice, worth_small b, few later)

eight : (n : ℕ) → length (levels_of_byte n) ≡ 8
unfolding levels_where
eight n = refl

abbrev set_field : (set : Levels) → length set ≡ 8 → (n : ℕ) × (n ≤ 255)
set_field set eight = (byte_of_levels set, grind (arith, nat_tests, few))

sets_format : IsFormat 5 sets_fields sets_bytes AreSets
unfolding sets_fields
sets_format =
    fields_format
    (byte_to 255 (omega arith) then λ masked good.
    byte_to 255 (omega arith) then λ in_service good.
    byte_to 255 (omega arith) then λ latches good.
    byte_to 255 (omega arith) then λ inputs good.
    last_field _ (byte_to 255 (omega arith)))
    (λ s is. (
      set_field s.masked is.masked & set_field s.in_service is.in_service & set_field s.latches is.latches
          & set_field s.inputs is.inputs & set_field s.triggers is.triggers,
      grind (arith, nat_tests, set_again, is),
    ))
    (λ t. grind (arith, nat_tests, eight, byte_again, t.1, t.2.1, t.2.2.1, t.2.2.2.1, t.2.2.2.2.1))

modes_format : IsFormat 7 modes_fields modes_bytes Any
unfolding modes_fields
modes_format =
    fields_format
    (flag_format then λ is_ready good.
    flag_format then λ auto_eoi good.
    flag_format then λ fully_nested good.
    flag_format then λ rotates good.
    flag_format then λ special_mask good.
    flag_format then λ polls good.
    last_field _ flag_format)
    (λ m any. (
      (m.is_ready, tt) & (m.auto_eoi, tt) & (m.fully_nested, tt) & (m.rotates, tt) & (m.special_mask, tt)
          & (m.polls, tt) & (m.reads_in_service, tt),
      refl,
    ))
    (λ t. (tt, refl))

-- ---- a chip

is_own_words : ℕ → Bool
is_own_words n = eqb n (awaited_byte (words_of n))

words_again : (n : ℕ) → n ≤ 7 → awaited_byte (words_of n) ≡ n
unfolding is_own_words awaited_byte
words_again n few = grind (arith, nat_tests)

-- the byte of words that are awaited
awaited_few : (words : List Word) → AreAwaited words → awaited_byte words ≤ 7
awaited_few words are = omega (arith, ap awaited_byte are.2 ∙ words_again are.0 (omega (arith, are.1)), are.1)

awaited_again : (words : List Word) → AreAwaited words → words ≡ words_of (awaited_byte words)
awaited_again words are = grind (arith, nat_tests, words_again)

pub chip_format : (has_slave : Bool) → IsFormat 15 (chip_fields has_slave) chip_bytes (IsChip has_slave)
unfolding chip_fields
chip_format has_slave =
    fields_format
    (byte_to 248 (omega arith) then λ base good.
    sets_format then λ sets good.
    byte_to 7 (omega arith) then λ awaited good.
    modes_format then λ modes good.
    last_field _ (byte_to 7 (omega arith)))
    (λ c is. (
      (c.base, is.base) & (sets_of c, is.sets) & (awaited_byte c.awaited, awaited_few c.awaited is.awaited)
          & (modes_of c, tt) & (c.lowest, omega (arith, is.lowest)),
      rw (← is.slave, ← awaited_again c.awaited is.awaited) refl,
    ))
    (λ t. (
      record {
        slave = refl;
        base = t.1;
        sets = t.2.1;
        awaited = (t.2.2.0, omega (arith, t.2.2.1), refl);
        lowest = omega (arith, t.2.2.2.2.1);
      },
      rw (words_again t.2.2.0 t.2.2.1) refl,
    ))

pub pair_format : IsFormat 30 pair_fields pair_bytes IsPair
unfolding pair_fields
pair_format =
    fields_format (chip_format true then λ master good. last_field _ (chip_format false))
    (λ p is. ((p.master, is.master) & (p.slave, is.slave), refl))
    (λ t. (record { master = t.1; slave = t.2.1 }, refl))

-- ---- the sixteen lines

pub lines_format : IsFormat 2 lines_fields lines_bytes AreLines
unfolding lines_fields
lines_format =
    fields_format (byte_to 255 (omega arith) then λ low good. last_field _ (byte_to 255 (omega arith)))
    (λ l is.
    let front : length (take 8 l) ≡ 8 = omega (arith, length-take 8 l, is) in
    let back : length (drop 8 l) ≡ 8 = omega (arith, length-drop 8 l, is) in (
      set_field (take 8 l) front & set_field (drop 8 l) back,
      rw (← set_again (take 8 l) front, ← set_again (drop 8 l) back) (sym (take-append-drop 8 l)),
    ))
    (λ t.
    let low = levels_of_byte t.0 in
    let high = levels_of_byte t.2.0 in (
      omega (arith, length-append low high, eight t.0, eight t.2.0),
      rw (take_at low high 8 (eight t.0), drop_at low high 8 (eight t.0), byte_again t.0 t.1, byte_again t.2.0 t.2.1)
          refl,
    ))
