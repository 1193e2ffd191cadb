-- The registers of a card after a reset, as they are read, and after a store of one byte.
use Rattle.std.proofs.Common.{◌≡◌, ◌≢◌, ◌⊎◌, ℕ, ◌+◌, ◌-◌, ◌*◌, ◌/◌, ◌%◌, ◌^◌, ◌<◌, ◌≤◌, Bool, true, false, Option, None}
use Rattle.std.proofs.Common.{List, length, get_or, set, Some, inl, inr, ◌∙◌, refl, sym, ap, arith, lit<, lit≤}
use Rattle.std.proofs.Common.{add-zero, ◌==◌, get_or-set_other, slice_index, slice_get, ◌&&◌, ◌||◌, nat_lt}
use Rattle.std.proofs.Common.{if◌then◌else◌, is_some}
use Rattle.board_prelude.proofs.{get_or-set_at, and-true, cases_Bool, cases_eq, cases_lt, nat_tests, Reg, Base}
use Rattle.board_prelude.proofs.{FittedCard, Setup, IsCard, card_at, byte, merged, wide, is_within, card_function}
use Rattle.board_prelude.proofs.{listed, base_reset, base_writable, rom_writable, reset_byte, reg_after, Bytes}
use Rattle.board_prelude.proofs.{card_register, option_map_or, is_map_byte, merged-all, merged-none}
use Rattle.board_base.specs.declared.access.Width.TheVariants.{Four}
use Rattle.pci_bars.specs.Bases.{of_base}
use Rattle.pci_bars.specs.Cards.{CardBytes, HoldsLong, HoldsRom, DecodesAs, IsCardOf, is_kept_offset, header_of, stored}
use Rattle.pci_bars.specs.Cards.{IsDecodedWritten, IsWritten}
use Rattle.pci_bars.proofs.TableLemmas.{is_fixed, reset_byte-card, writable_bits-card, reset_past, writable_past}
use Rattle.pci_bars.proofs.TableLemmas.{writable-base, header_at_reset}

-- ---- four bytes as a number

pub wide_of_bytes :
    (f : ℕ → ℕ) (from n : ℕ) → n < 2 ^ 32 → ((j : ℕ) → j < 4 → f (from + j) ≡ byte n j) → wide f from Four ≡ n
wide_of_bytes f from n below each =
    let first : f from ≡ byte n 0 = ap f (sym (add-zero from)) ∙ each 0 (lit< tt) in
    omega (arith, each 1 (lit< tt), each 2 (lit< tt), each 3 (lit< tt))

-- where the bytes are the same, so is the doubleword
pub holds-same : (bytes bytes' : Bytes) (first : Reg) (value : ℕ) →
    ((j : ℕ) → j < 4 → bytes' (reg_after first j) ≡ bytes (reg_after first j)) → HoldsLong bytes first value →
    HoldsLong bytes' first value
holds-same bytes bytes' first value same is = grind (arith, nat_tests, add-zero)

-- a doubleword by its bytes
long_of : (bytes : Bytes) (dev from value : ℕ) → value < 2 ^ 32 →
    ((j : ℕ) → j < 4 → bytes (card_register dev (from + j)) ≡ byte value j) →
    HoldsLong bytes (card_register dev from) value
long_of bytes dev from value below each =
    record { number = wide_of_bytes (λ off. bytes (card_register dev off)) from value below each; each = each }

long_small : (bytes : Bytes) (first : Reg) (value : ℕ) → HoldsLong bytes first value → value < 2 ^ 32
long_small bytes first value is =
    let here = rw add-zero at (is.each 0 (lit< tt)) in
    omega (arith, is.number, is.each 1 (lit< tt), is.each 2 (lit< tt), is.each 3 (lit< tt))

-- ---- after a reset

abbrev new_card : FittedCard → List ℕ → CardBytes
new_card card values = record { card = card; command = 0; line = 0; bases = values; rom = 0 }

small_reset : (base : Option Base) → option_map_or base_reset base 0 < 2 ^ 32
small_reset base = grind arith

module _ (setup : Setup) (card : FittedCard) (values : List ℕ) (fit : IsCard card)
    (fitted : card_at setup card.dev ≡ Some card) where
  at_reset : (off : ℕ) →
      reset_byte setup (card_register card.dev off) ≡ listed (λ entry. entry.reset) (card_function card) off
  at_reset off = reset_byte-card setup card off fit.first fitted

  rom_at_reset : (rom : Option ℕ) → HoldsRom (reset_byte setup) card.dev 0 rom
  rom_at_reset None = tt
  rom_at_reset (Some bits) =
      long_of (reset_byte setup) card.dev 0x30 0 (lit< tt)
      (λ j below. at_reset (0x30 + j) ∙ reset_past card fit.count (0x30 + j) (omega arith) ∙ grind (arith, nat_tests))

  pub card_at_reset : ((k : ℕ) → slice_index values k ≡ of_base base_reset card.bases k) →
      IsCardOf setup (reset_byte setup) (new_card card values)
  unfolding card_function
  card_at_reset is_reset = record {
    decodes = record {
      fitted = fitted;
      command = at_reset 0x04;
      bases = λ k below.
          rw (is_reset k)
          (long_of (reset_byte setup) card.dev (0x10 + 4 * k) _ (small_reset (slice_get card.bases k))
          (λ j j_below.
          let index : (0x10 + 4 * k + j - 0x10) / 4 ≡ k = omega arith in
          let lane : (0x10 + 4 * k + j - 0x10) % 4 ≡ j = omega arith in
          at_reset (0x10 + 4 * k + j)
          ∙ reset_past card fit.count (0x10 + 4 * k + j) (omega arith)
          ∙ rw (index, lane) (grind (arith, nat_tests))));
      rom = rom_at_reset card.rom;
    };
    line = at_reset 0x3C ∙ reset_past card fit.count 0x3C (lit≤ tt);
    no_rom = λ none. refl;
    fixed = λ off _. refl;
  }

-- ---- as they are read

-- the register at an offset
abbrev pub register_of : CardBytes → ℕ → ℕ
register_of card off =
    if nat_lt off 0x10 then get_or (header_of card) off 0 else
    if nat_lt off 0x28 then byte (slice_index card.bases ((off - 0x10) / 4)) ((off - 0x10) % 4) else
    if is_within 0x30 0x33 off then byte card.rom (off - 0x30) else
    if off == 0x3C then card.line else if off == 0x3D then 1 else 0

-- the offsets of a card's map bytes
abbrev is_map_offset : Bool → ℕ → Bool
is_map_offset has_rom off = (off == 4 || is_within 0x10 0x27 off) || has_rom && is_within 0x30 0x33 off

module _ (setup : Setup) (bytes : Bytes) (card : CardBytes) (off : ℕ) (fit : IsCard card.card) where
  map_register : DecodesAs setup bytes card → is_map_offset (is_some card.card.rom) off ≡ true →
      register_of card off ≡ bytes (card_register card.card.dev off)
  map_register is in_map = grind (arith, nat_tests)

  pub decoded_read : DecodesAs setup bytes card → is_map_byte setup (card_register card.card.dev off) ≡ true →
      register_of card off ≡ bytes (card_register card.card.dev off)
  decoded_read is in_map = grind (arith, nat_tests, map_register, and-true)

  -- what is not kept reads as after a reset
  fixed_read : IsCardOf setup bytes card → is_kept_offset card.card off ≡ false →
      register_of card off ≡ listed (λ entry. entry.reset) (card_function card.card) off
  fixed_read is not_kept =
      elim (cases_lt off 0x10) [
        | inl below ↦
            let apart : off ≢ 4 = λ e. grind (arith, nat_tests) in
            let reset = header_at_reset card off below in
            grind (arith, nat_tests)
        | inr past ↦
            let reset = reset_past card.card fit.count off past in
            let none = is.no_rom in
            grind (arith, nat_tests, reset)
      ]

  pub read : IsCardOf setup bytes card → register_of card off ≡ bytes (card_register card.card.dev off)
  read is =
      elim (cases_Bool (is_map_offset (is_some card.card.rom) off)) [
        | inl in_map ↦ map_register is.decodes in_map
        | inr out ↦ elim (cases_eq off 0x3C) [
          | inl line ↦ rw line (sym is.line)
          | inr not_line ↦
              let not_kept : is_kept_offset card.card off ≡ false = grind (arith, nat_tests) in
              fixed_read is not_kept
              ∙ sym (is.fixed off not_kept ∙ reset_byte-card setup card.card off fit.first is.decodes.fitted)
        ]
      ]

-- ---- after a store of one byte

-- four registers from an offset on, after a byte is written at another: one of them takes it under its writable bits
pub record LongAfter (writable old new from off written : ℕ) : Type 0 where
  pub small : (new ≡ old) ⊎ (new < 2 ^ 32)
  pub each : (j : ℕ) → j < 4 →
      byte new j ≡ (if off == from + j then merged (byte writable j) (byte old j) written else byte old j)

-- a card before and after a byte is written at an offset, register by register
pub record IsStore (old new : CardBytes) (off written : ℕ) : Type 0 where
  pub card : new.card ≡ old.card
  pub command : new.command ≡ (if off == 0x04 then merged 0x07 old.command written else old.command)
  pub line : new.line ≡ (if off == 0x3C then written else old.line)
  pub bases : (k : ℕ) → k < 6 → LongAfter (of_base base_writable old.card.bases k) (slice_index old.bases k)
      (slice_index new.bases k) (0x10 + 4 * k) off written
  pub rom : LongAfter (rom_writable old.card.rom) old.rom new.rom 0x30 off written

module _ (setup : Setup) (bytes : Bytes) (card : FittedCard) (off written : ℕ) (fit : IsCard card)
    (below : written < 256) (fitted : card_at setup card.dev ≡ Some card) where
  stored_at : (at : ℕ) →
      stored setup bytes card.dev off written (card_register card.dev at)
      ≡
      (if off == at then merged (listed (λ entry. entry.writable) (card_function card) at)
      (bytes (card_register card.dev at)) written else bytes (card_register card.dev at))
  stored_at at =
      let above = fit.first in
      let bits = writable_bits-card setup card at fit.first fitted in
      grind (arith, nat_tests, bits)

  long_stored : (from writable old new : ℕ) →
      ((j : ℕ) → j < 4 → listed (λ entry. entry.writable) (card_function card) (from + j) ≡ byte writable j) →
      LongAfter writable old new from off written → HoldsLong bytes (card_register card.dev from) old →
      HoldsLong (stored setup bytes card.dev off written) (card_register card.dev from) new
  long_stored from writable old new in_table after is =
      let small = long_small bytes _ _ is in
      long_of _ _ _ _ (grind (arith, after.small)) (λ j j_below.
      stored_at (from + j) ∙ rw (in_table j j_below, is.each j j_below) (sym (after.each j j_below)))

  rom_held : (rom : Option ℕ) (old new : ℕ) → card.rom ≡ rom →
      LongAfter (rom_writable rom) old new 0x30 off written →
      HoldsRom bytes card.dev old rom → HoldsRom (stored setup bytes card.dev off written) card.dev new rom
  rom_held None old new same after held = tt
  rom_held (Some bits) old new same after held =
      long_stored 0x30 _ old new
      (λ j j_below. writable_past card fit.count (0x30 + j) (omega arith) ∙ rw same (grind (arith, nat_tests))) after
      held

-- nothing is written to the register of a ROM that a card does not have
none_written : (new off written : ℕ) → LongAfter 0 0 new 0x30 off written → new ≡ 0
none_written new off written after =
    let each : (j : ℕ) → j < 4 → byte new j ≡ 0 = λ j below.
    let none = merged-none 0 written (lit< tt) in
    grind (arith, nat_tests, after.each j below, none) in
    let small = after.small in
    grind (arith, each 0 (lit< tt), each 1 (lit< tt), each 2 (lit< tt), each 3 (lit< tt))

module _ (old new : CardBytes) (off written : ℕ) (fit : IsCard old.card) (below : written < 256)
    (store : IsStore old new off written) where
  decodes_written : IsDecodedWritten old new off written
  unfolding card_function
  decodes_written setup bytes is =
      let at = stored_at setup bytes old.card off written fit below is.fitted in
      rw store.card (record {
        fitted = is.fitted;
        command = at 0x04 ∙ rw is.command (sym store.command);
        bases = λ k k_below.
            long_stored setup bytes old.card off written fit below is.fitted (0x10 + 4 * k) _ _ _
            (λ j j_below. writable-base old.card fit.count k j k_below j_below) (store.bases k k_below)
            (is.bases k k_below);
        rom = rom_held setup bytes old.card off written fit below is.fitted old.card.rom _ _ refl store.rom is.rom;
      })

  card_written : IsWritten old new off written
  card_written setup bytes is =
      let at = stored_at setup bytes old.card off written fit below is.decodes.fitted in
      rw store.card (record {
        decodes = rw store.card at (decodes_written setup bytes is.decodes);
        line =
            at 0x3C
            ∙ rw (writable_past old.card fit.count 0x3C (lit≤ tt), is.line, merged-all old.line written below)
            (sym store.line);
        no_rom = λ none. none_written _ _ _ (rw (none, is.no_rom none) at store.rom);
        fixed = λ reg not_kept.
            let fixed = is_fixed old.card fit reg not_kept in
            let stands = is.fixed reg not_kept in
            let small = rw (← reset_byte-card setup old.card reg fit.first is.decodes.fitted) at fixed.byte in
            at reg
            ∙ rw (stands, fixed.writable, merged-none (reset_byte setup (card_register old.card.dev reg)) written small)
            (elim (cases_Bool (off == reg)) [ inl here ↦ rw here refl | inr apart ↦ rw apart refl ]);
      })

  pub are_written : IsDecodedWritten old new off written × IsWritten old new off written
  are_written = (decodes_written, card_written)

-- ---- what each store does

-- an offset lies in none of the four registers from another on
abbrev pub IsOffLong : (from off : ℕ) → Type 0
IsOffLong from off = (off < from) ⊎ (from + 4 ≤ off)

long_same : (writable old from off written : ℕ) → IsOffLong from off → LongAfter writable old old from off written
long_same writable old from off written apart =
    record { small = inl refl; each = λ j below. grind (arith, nat_tests) }

module _ (card : CardBytes) where
  pub command_stored : (written : ℕ) →
      IsStore card (record card { command = merged 0x07 card.command written }) 0x04 written
  command_stored written = grind (arith, nat_tests, long_same)

  pub line_stored : (written : ℕ) → IsStore card (record card { line = written }) 0x3C written
  line_stored written = grind (arith, nat_tests, long_same)

  module _ (off written : ℕ) where
    pub base_stored : (index new : ℕ) → length card.bases ≡ 6 → index < 6 → index ≡ (off - 0x10) / 4 → 0x10 ≤ off →
        LongAfter (of_base base_writable card.card.bases index) (slice_index card.bases index) new (0x10 + 4 * index)
        off written → IsStore card (record card { bases = set card.bases index new }) off written
    base_stored index new six in_range at from after =
        let here = λ (k : ℕ). get_or-set_at card.bases index k new 0 in
        let apart = λ (k : ℕ). get_or-set_other card.bases index k new 0 in
        grind (arith, nat_tests, long_same, here, apart)

    pub rom_stored : (new : ℕ) → 0x30 ≤ off → off < 0x34 →
        LongAfter (rom_writable card.card.rom) card.rom new 0x30 off written →
        IsStore card (record card { rom = new }) off written
    rom_stored new from to after = grind (arith, nat_tests, long_same)

-- an offset on which the address map does not depend
pub record IsApart (off : ℕ) : Type 0 where
  pub command : off ≢ 0x04
  pub bases : (off < 0x10) ⊎ (0x28 ≤ off)
  pub rom : IsOffLong 0x30 off

pub none_stored : (card : CardBytes) (off written : ℕ) → IsApart off → off ≢ 0x3C → IsStore card card off written
none_stored card off written apart not_line = grind (arith, nat_tests, long_same)

pub card-apart : (setup : Setup) (bytes : Bytes) (card : CardBytes) (off written : ℕ) → IsCard card.card →
    written < 256 → IsApart off → off ≢ 0x3C → IsCardOf setup bytes card →
    IsCardOf setup (stored setup bytes card.card.dev off written) card
card-apart setup bytes card off written fit below apart not_line =
    card_written card card off written fit below (none_stored card off written apart not_line) setup bytes

pub ruleset reads = (nat_tests, decoded_read)
