-- The state of the pair as bytes: the master's, and then the slave's. And that of the sixteen lines.
use Rattle.std.specs.Prelude.{ℕ, ◌≡◌, ◌<◌, ◌≤◌, ◌+◌, ◌++◌, Bool, true, false, if◌then◌else◌, List, [], ◌∷◌, length}
use Rattle.std.specs.Prelude.{take, drop}
use Rattle.std.specs.Int.{w8}
use Rattle.board_base.specs.Bits.{is_bit}
use Rattle.byte_fields.specs.Fields.{Reading, gives, ◌>>=◌, within, flag_byte, flag_field}
use Rattle.device_spec.specs.Levels.{levels_of_byte, byte_of_levels}
use Rattle.device_spec.specs.Pic.{Chip, Word, Icw2, Icw3, Icw4}
use Rattle.device_spec.specs.Pair.{Pair}
use Rattle.pic_pair.specs.declared.state.Sets.{Sets}
use Rattle.pic_pair.specs.declared.state.Modes.{Modes}

-- ---- the words that are awaited: a bit for each, ICW2 the highest

abbrev pub word_bit : Word → ℕ
word_bit Icw2 = 4
word_bit Icw3 = 2
word_bit Icw4 = 1

unfoldable pub awaited_byte : List Word → ℕ
awaited_byte [] = 0
awaited_byte (word ∷ later) = word_bit word + awaited_byte later

abbrev pub word_where : Bool → Word → List Word
word_where is_awaited word = if is_awaited then word ∷ [] else []

abbrev pub words_of : ℕ → List Word
words_of n = word_where (is_bit n 2) Icw2 ++ (word_where (is_bit n 1) Icw3 ++ word_where (is_bit n 0) Icw4)

abbrev pub AreAwaited : List Word → Type 0
AreAwaited words = (n : ℕ) × (n < 8) × (words ≡ words_of n)

-- ---- the sets of levels, and the modes

abbrev pub sets_of : Chip → Sets
sets_of chip = record {
  masked = chip.masked;
  in_service = chip.in_service;
  latches = chip.latches;
  inputs = chip.inputs;
  triggers = chip.triggers;
}

abbrev pub modes_of : Chip → Modes
modes_of chip = record {
  is_ready = chip.is_ready;
  auto_eoi = chip.auto_eoi;
  fully_nested = chip.fully_nested;
  rotates = chip.rotates;
  special_mask = chip.special_mask;
  polls = chip.polls;
  reads_in_service = chip.reads_in_service;
}

pub record AreSets (sets : Sets) : Type 0 where
  pub masked : length sets.masked ≡ 8
  pub in_service : length sets.in_service ≡ 8
  pub latches : length sets.latches ≡ 8
  pub inputs : length sets.inputs ≡ 8
  pub triggers : length sets.triggers ≡ 8

abbrev pub sets_bytes : Sets → List ℕ
sets_bytes sets =
    byte_of_levels sets.masked ∷ byte_of_levels sets.in_service ∷ byte_of_levels sets.latches
    ∷ byte_of_levels sets.inputs ∷ byte_of_levels sets.triggers ∷ []

abbrev pub modes_bytes : Modes → List ℕ
modes_bytes modes =
    flag_byte modes.is_ready ∷ flag_byte modes.auto_eoi ∷ flag_byte modes.fully_nested ∷ flag_byte modes.rotates
    ∷ flag_byte modes.special_mask ∷ flag_byte modes.polls ∷ flag_byte modes.reads_in_service ∷ []

unfoldable pub sets_fields : Reading Sets
sets_fields = do
  masked ← within w8 0 255
  in_service ← within w8 0 255
  latches ← within w8 0 255
  inputs ← within w8 0 255
  triggers ← within w8 0 255
  gives (record {
    masked = levels_of_byte masked;
    in_service = levels_of_byte in_service;
    latches = levels_of_byte latches;
    inputs = levels_of_byte inputs;
    triggers = levels_of_byte triggers;
  })

unfoldable pub modes_fields : Reading Modes
modes_fields = do
  is_ready ← flag_field
  auto_eoi ← flag_field
  fully_nested ← flag_field
  rotates ← flag_field
  special_mask ← flag_field
  polls ← flag_field
  reads_in_service ← flag_field
  gives (record {
    is_ready = is_ready;
    auto_eoi = auto_eoi;
    fully_nested = fully_nested;
    rotates = rotates;
    special_mask = special_mask;
    polls = polls;
    reads_in_service = reads_in_service;
  })

-- ---- a chip: whether it has a slave is not in its bytes

-- the base of its vectors leaves room for eight of them
pub record IsChip (has_slave : Bool) (chip : Chip) : Type 0 where
  pub slave : chip.has_slave ≡ has_slave
  pub base : chip.base ≤ 248
  pub sets : AreSets (sets_of chip)
  pub awaited : AreAwaited chip.awaited
  pub lowest : chip.lowest < 8

abbrev pub chip_bytes : Chip → List ℕ
chip_bytes chip =
    chip.base ∷ (sets_bytes (sets_of chip) ++ awaited_byte chip.awaited
    ∷ (modes_bytes (modes_of chip) ++ chip.lowest ∷ []))

unfoldable pub chip_fields : (has_slave : Bool) → Reading Chip
chip_fields has_slave = do
  base ← within w8 0 248
  sets ← sets_fields
  awaited ← within w8 0 7
  modes ← modes_fields
  lowest ← within w8 0 7
  gives (record {
    has_slave = has_slave;
    base = base;
    masked = sets.masked;
    in_service = sets.in_service;
    latches = sets.latches;
    inputs = sets.inputs;
    triggers = sets.triggers;
    awaited = words_of awaited;
    is_ready = modes.is_ready;
    auto_eoi = modes.auto_eoi;
    fully_nested = modes.fully_nested;
    rotates = modes.rotates;
    special_mask = modes.special_mask;
    lowest = lowest;
    polls = modes.polls;
    reads_in_service = modes.reads_in_service;
  })

-- ---- the pair: the master alone has a slave

pub record IsPair (pair : Pair) : Type 0 where
  pub master : IsChip true pair.master
  pub slave : IsChip false pair.slave

abbrev pub pair_bytes : Pair → List ℕ
pair_bytes pair = chip_bytes pair.master ++ chip_bytes pair.slave

unfoldable pub pair_fields : Reading Pair
pair_fields = do
  master ← chip_fields true
  slave ← chip_fields false
  gives (record { master = master; slave = slave })

-- ---- the sixteen lines: a byte of lines 0 to 7, and one of lines 8 to 15

abbrev pub AreLines : List Bool → Type 0
AreLines lines = length lines ≡ 16

abbrev pub lines_bytes : List Bool → List ℕ
lines_bytes lines = byte_of_levels (take 8 lines) ∷ byte_of_levels (drop 8 lines) ∷ []

unfoldable pub lines_fields : Reading (List Bool)
lines_fields = do
  low ← within w8 0 255
  high ← within w8 0 255
  gives (levels_of_byte low ++ levels_of_byte high)
