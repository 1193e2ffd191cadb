-- A card in the table of registers.
use Rattle.std.proofs.Common.{◌≡◌, ℕ, zero, suc, ◌+◌, ◌-◌, ◌*◌, ◌/◌, ◌%◌, ◌<◌, ◌≤◌, false, List, [], ◌∷◌, length}
use Rattle.std.proofs.Common.{get_or, Some, refl, ap, arith, ◌==◌, flat_map, if◌then◌else◌, replicate}
use Rattle.board_prelude.proofs.{ne_eqb, nat_tests, get_or_append_left, get_or-append_right, get_or_past, Base}
use Rattle.board_prelude.proofs.{FittedCard, Setup, IsCard, card_at, byte, is_within, long_bytes, line, card_function}
use Rattle.board_prelude.proofs.{function_lines, listed, base_reset, base_writable, rom_writable, reset_byte}
use Rattle.board_prelude.proofs.{writable_bits, card_register, each_below, get_or-replicate}
use Rattle.board_spec.specs.RegisterTable.{Line}
use Rattle.pci_bars.specs.Bases.{of_base}
use Rattle.pci_bars.specs.Cards.{CardBytes, is_kept_offset, header_of}
use Rattle.std.proofs.lemmas.Grind.{common_steps}

module _ (setup : Setup) (card : FittedCard) (off : ℕ) (above : 2 ≤ card.dev)
    (fitted : card_at setup card.dev ≡ Some card) where
  card_lines : function_lines setup card.dev 0 ≡ card_function card
  card_lines = rw (ne_eqb card.dev 0 (λ e. omega arith), ne_eqb card.dev 1 (λ e. omega arith), fitted) refl

  pub reset_byte-card :
      reset_byte setup (card_register card.dev off) ≡ listed (λ entry. entry.reset) (card_function card) off
  unfolding reset_byte
  reset_byte-card = ap (λ lines. listed (λ entry. entry.reset) lines off) card_lines

  pub writable_bits-card :
      writable_bits setup (card_register card.dev off) ≡ listed (λ entry. entry.writable) (card_function card) off
  unfolding writable_bits
  writable_bits-card = ap (λ lines. listed (λ entry. entry.writable) lines off) card_lines

-- ---- the lines past the header

abbrev base_bytes : (Base → ℕ) → List Base → List ℕ
base_bytes number_of bases = flat_map (λ base. long_bytes (number_of base)) bases

length-base_bytes : (number_of : Base → ℕ) (bases : List Base) → length (base_bytes number_of bases) ≡ 4 * length bases
length-base_bytes number_of [] = refl
length-base_bytes number_of (base ∷ later) = omega (arith, length-base_bytes number_of later)

pub long_byte : (n j : ℕ) → j < 4 → get_or (long_bytes n) j 0 ≡ byte n j
long_byte n j below = each_below (λ j. get_or (long_bytes n) j 0 ≡ byte n j) 4 j (assumption) below

get_or-base_bytes : (number_of : Base → ℕ) (bases : List Base) (k j i : ℕ) → i ≡ 4 * k + j → j < 4 →
    get_or (base_bytes number_of bases) i 0 ≡ byte (of_base number_of bases k) j
get_or-base_bytes number_of [] k j i at below =
    grind (arith, nat_tests, common_steps, get_or_append_left, get_or-append_right)
get_or-base_bytes number_of (base ∷ later) zero j i at below =
    grind (arith, nat_tests, common_steps, get_or_append_left, get_or-append_right)
get_or-base_bytes number_of (base ∷ later) (suc k) j i at below =
    grind (
      arith,
      nat_tests,
      common_steps,
      get_or_append_left,
      get_or-append_right,
      get_or-base_bytes number_of later k
          j (i - 4) (omega arith) below,
    )

abbrev base_entry : FittedCard → Line
base_entry card = line 0x10 (base_bytes base_reset card.bases) (base_bytes base_writable card.bases)

abbrev pub rom_entry : FittedCard → Line
rom_entry card = line 0x30 (replicate 4 0x00) (long_bytes (rom_writable card.rom))

abbrev pub last_entry : Line
last_entry = line 0x3C (0x00 ∷ 0x01 ∷ []) (0xFF ∷ [])

-- an offset among the bases, the register of the ROM, and the interrupt line and pin. No other is listed
pub past_header : (column : Line → List ℕ) (number_of : Base → ℕ) (card : FittedCard) →
    column (base_entry card) ≡ base_bytes number_of card.bases → length card.bases ≤ 6 → (off : ℕ) → 0x10 ≤ off →
    listed column (card_function card) off
    ≡
    (if is_within 0x10 0x27 off then byte (of_base number_of card.bases ((off - 0x10) / 4)) ((off - 0x10) % 4) else
    if is_within 0x30 0x33 off then get_or (column (rom_entry card)) (off - 0x30) 0 else
    if is_within 0x3C 0x3D off then get_or (column last_entry) (off - 0x3C) 0 else 0)
unfolding card_function
past_header column number_of card same few off above = grind (
  arith,
  nat_tests,
  length-base_bytes,
  get_or-base_bytes,
  get_or_past,
)

module _ (card : FittedCard) (few : length card.bases ≤ 6) where
  pub reset_past : (off : ℕ) → 0x10 ≤ off →
      listed (λ entry. entry.reset) (card_function card) off
      ≡
      (if is_within 0x10 0x27 off then byte (of_base base_reset card.bases ((off - 0x10) / 4)) ((off - 0x10) % 4) else
      if off == 0x3D then 1 else 0)
  reset_past off above =
      let listed_as = past_header (λ entry. entry.reset) base_reset card refl few off above in
      let rom = get_or-replicate {A = ℕ} 4 (off - 0x30) 0 0 in
      grind (arith, nat_tests, listed_as, rom)

  pub writable_past : (off : ℕ) → 0x10 ≤ off →
      listed (λ entry. entry.writable) (card_function card) off
      ≡
      (if is_within 0x10 0x27 off
      then byte (of_base base_writable card.bases ((off - 0x10) / 4)) ((off - 0x10) % 4) else
      if is_within 0x30 0x33 off then byte (rom_writable card.rom) (off - 0x30) else if off == 0x3C then 0xFF else 0)
  writable_past off above =
      let listed_as = past_header (λ entry. entry.writable) base_writable card refl few off above in
      let rom = long_byte (rom_writable card.rom) (off - 0x30) in
      grind (arith, nat_tests, listed_as, rom)

  pub writable-base : (k j : ℕ) → k < 6 → j < 4 →
      listed (λ entry. entry.writable) (card_function card) (0x10 + 4 * k + j)
      ≡ byte (of_base base_writable card.bases k) j
  writable-base k j k_below j_below = grind (arith, nat_tests, writable_past)

-- ---- the header, and what is not kept

-- the header after a reset, in which the command is 0
pub header_at_reset : (card : CardBytes) (off : ℕ) → off < 16 →
    listed (λ entry. entry.reset) (card_function card.card) off ≡ get_or (header_of (record card { command = 0 })) off 0
unfolding card_function
header_at_reset card off =
    each_below
    (λ off. listed (λ entry. entry.reset) (card_function card.card) off
    ≡ get_or (header_of (record card { command = 0 })) off 0) 16 off
    assumption

-- what an offset has that is not kept: a byte, none of whose bits can be written
pub record IsFixed (card : FittedCard) (off : ℕ) : Type 0 where
  pub byte : listed (λ entry. entry.reset) (card_function card) off < 256
  pub writable : listed (λ entry. entry.writable) (card_function card) off ≡ 0

pub is_fixed : (card : FittedCard) → IsCard card → (off : ℕ) → is_kept_offset card off ≡ false → IsFixed card off
unfolding card_function
is_fixed card fit off not_kept = grind (arith, nat_tests, reset_past, writable_past, each_below)
