-- The windows that registers govern, as the code finds them.
use Rattle.board_prelude.proofs.{append-nil, common_steps, nat_tests, option_map_or, take_more, card_at}
use Rattle.board_prelude.proofs.{div-lt_iff_lt-mul, Width, Reg, FittedCard, Setup, Bytes, MapChange, Store}
use Rattle.board_prelude.proofs.{enumerate_from, cases_Bool, map-append, Base, IsCard, Window, base_value}
use Rattle.board_prelude.proofs.{memory_window, rom_window_of, vga_window}
use Rattle.std.proofs.Common.{pow-add, pow_pos, ◌≡◌, ℕ, zero, suc, ◌+◌, ◌-◌, ◌*◌, ◌/◌, ◌^◌, ◌<◌, ◌≤◌, List, [], ◌∷◌}
use Rattle.std.proofs.Common.{◌++◌, length, map, get_or, refl, sym, ◌∙◌, ap, arith, mul_comm, Option, None, slice_get}
use Rattle.std.proofs.Common.{slice_index, flat_map, take, inl, inr, Bool, filter, Some, ◌==◌, find, option_map}
use Rattle.std.proofs.lemmas.Option.{slice_get-map, slice_get_past, slice_get-get_or}
use Rattle.std.proofs.lemmas.Nat.{mul-add-lt}
use Rattle.pci_bars.specs.declared.spec.BaseSpec.{BaseSpec}
use Rattle.pci_bars.specs.Bases.{base_of}
use Rattle.map_builder.specs.declared.range.Changed.{Changed}
use Rattle.map_builder.specs.Changed.{name_windows, windows_covered, decoded, card_windows}
use Rattle.map_builder.specs.Held.{held_by, held_at, held_from, rom_held, vga_held, card_held, device_held}
use Rattle.addr_decode.specs.declared.register.MapRegister.{MapRegister}
use Rattle.addr_decode.specs.MapRegister.{names_of, IsCardNumber}
use Rattle.std.proofs.lemmas.List.{flat_map_more}
use Rattle.pci_bars.specs.Cards.{CardBytes, HoldsRom, DecodesAs, AreCards, AreDecoded}
use Rattle.pci_bars.proofs.CardListLemmas.{found, find-cards}
use Rattle.addr_decode.specs.declared.register.CardRegister.{CardRegister}
use Rattle.addr_decode.specs.declared.register.CardRegister.TheVariants.{Command, Base as BaseByte, ExpansionRom}

-- the last address of a block is an address
pub block_fits : (inside bits : ℕ) → inside < 2 ^ 32 → bits ≤ 28 →
    inside / 2 ^ bits * 2 ^ bits + (2 ^ bits - 1) < 2 ^ 32
block_fits inside bits address few =
    let positive = pow_pos bits in
    let two : bits + (32 - bits) ≡ 32 = omega arith in
    let whole : 2 ^ bits * 2 ^ (32 - bits) ≡ 2 ^ 32 = sym (pow-add 2 bits (32 - bits)) ∙ ap (λ k. 2 ^ k) two in
    let place : inside / 2 ^ bits < 2 ^ (32 - bits) =
    (div-lt_iff_lt-mul positive).1 (rw (mul_comm (2 ^ (32 - bits)) (2 ^ bits), whole) address) in
    rw whole at (mul-add-lt (inside / 2 ^ bits) (2 ^ bits) (2 ^ bits - 1) (2 ^ (32 - bits)) place (omega arith))

-- ---- the registers that a store covers

-- the windows of the names of a store are those that it covers
pub covered_by_names : (setup : Setup) (bytes : Bytes) (change : MapChange) (reg : Reg) (width : Width) (value : ℕ)
    (cards : List FittedCard) (names : List (Option MapRegister)) → change ≡ Store reg width value →
    setup.cards ≡ cards →
    names ≡ names_of cards change → flat_map (name_windows setup bytes) names ≡ windows_covered setup bytes change
unfolding windows_covered
covered_by_names setup bytes change reg width value cards names is same named = grind (arith, nat_tests)

-- one more name
pub pushed_on : (windows : Option MapRegister → List Changed) (names : List (Option MapRegister)) (k : ℕ)
    (first found next : List Changed) → k < length names → found ≡ first ++ flat_map windows (take k names) →
    next ≡ found ++ windows (get_or names k None) → next ≡ first ++ flat_map windows (take (k + 1) names)
pushed_on windows names k first found next below found_is next_is =
    grind (arith, nat_tests, common_steps, take_more, flat_map_more)

-- a base by its number
held_one : (value : ℕ) (bases : List BaseSpec) (k : ℕ) (d : BaseSpec) → k < length bases →
    option_map_or (λ base. held_by base value) (slice_get (map base_of bases) k) []
    ≡ held_by (base_of (get_or bases k d)) value
held_one value bases k d within = rw (slice_get-map base_of bases k, slice_get-get_or bases k d within) refl

pub held_here : (values : List ℕ) (bases : List BaseSpec) (k : ℕ) (base : BaseSpec) → k < length bases →
    base ≡ get_or bases k base → held_by (base_of base) (slice_index values k) ≡ held_at values (map base_of bases) k
held_here values bases k base within is = grind (arith, nat_tests, common_steps, slice_index, held_one)

-- there is no such base
pub held_past : (values : List ℕ) (bases : List BaseSpec) (k : ℕ) → length bases ≤ k →
    held_at values (map base_of bases) k ≡ []
held_past values bases k past = rw (slice_get-map base_of bases k, slice_get_past bases k past) refl

pub ruleset base_steps = (nat_tests, common_steps, append-nil, held_here, held_past)

-- ---- those of a card, by the values of its bases

-- the windows of bases, the first of them base number `first`
abbrev pub from_base : Bytes → (dev first : ℕ) → List Base → List Window
from_base bytes dev first bases =
    flat_map (λ numbered. memory_window bytes dev numbered.0 numbered.1) (enumerate_from first bases)

-- the base registers hold these values
abbrev pub Hold : Bytes → (dev : ℕ) → (values : List ℕ) → Type 0
Hold bytes dev values = (k : ℕ) → k < 6 → base_value bytes dev k ≡ slice_index values k

-- the register of the expansion ROM holds this value
abbrev pub HoldRom : Bytes → (dev register : ℕ) → Option ℕ → Type 0
HoldRom bytes dev register rom = map decoded (rom_window_of bytes dev rom) ≡ rom_held rom register

pub rom_is : (bytes : Bytes) (dev register : ℕ) (rom : Option ℕ) → HoldsRom bytes dev register rom →
    HoldRom bytes dev register rom
rom_is bytes dev register rom holds = grind (arith, nat_tests)

-- ---- the command governs them all

all_held : (bytes : Bytes) (dev : ℕ) (values : List ℕ) (first : ℕ) (bases : List Base) → Hold bytes dev values →
    first + length bases ≤ 6 → map decoded (from_base bytes dev first bases) ≡ held_from values first bases
all_held bytes dev values first [] hold few = refl
all_held bytes dev values first (base ∷ later) hold few =
    grind (arith, nat_tests, hold first, all_held bytes dev values (first + 1) later hold)

vga_is : (card : FittedCard) → map decoded (vga_window card) ≡ vga_held card.vga
vga_is card = elim (cases_Bool card.vga) [ inl on ↦ rw on refl | inr off ↦ rw off refl ]

-- ---- a base register governs its own

abbrev numbered : ℕ → Window → Bool
numbered k window = window.base == k

none_below : (bytes : Bytes) (dev k first : ℕ) (bases : List Base) → k < first →
    filter (numbered k) (from_base bytes dev first bases) ≡ []
none_below bytes dev k first [] below = refl
none_below bytes dev k first (base ∷ later) below =
    grind (arith, nat_tests, none_below bytes dev k (first + 1) later)

pub one_held : (bytes : Bytes) (dev k j first : ℕ) (bases : List Base) → first + j ≡ k →
    map decoded (filter (numbered k) (from_base bytes dev first bases))
    ≡ option_map_or (λ base. held_by base (base_value bytes dev k)) (slice_get bases j) []
one_held bytes dev k j first [] at = refl
one_held bytes dev k zero first (base ∷ later) at =
    grind (arith, nat_tests, none_below bytes dev k (first + 1) later)
one_held bytes dev k (suc j) first (base ∷ later) at =
    grind (arith, nat_tests, one_held bytes dev k j (first + 1) later)

-- ---- a card

pub card_is : (bytes : Bytes) (card : CardBytes) (register : CardRegister) → IsCardNumber register →
    length card.card.bases ≤ 6 → Hold bytes card.card.dev card.bases →
    HoldRom bytes card.card.dev card.rom card.card.rom → card_windows bytes register card.card ≡ card_held register card
card_is bytes card Command number few hold hold_rom =
    let held = all_held bytes card.card.dev card.bases 0 card.card.bases hold (omega arith) in
    simp map-append (rw (held, hold_rom, vga_is card.card) refl)
card_is bytes card (BaseByte k) number few hold hold_rom =
    one_held bytes card.card.dev (k / 4) (k / 4) 0 card.card.bases (omega arith)
    ∙ ap (λ (value : ℕ). option_map_or (λ base. held_by base value) (slice_get card.card.bases (k / 4)) [])
    (hold (k / 4) (omega (arith, number)))
card_is bytes card (ExpansionRom k) number few hold hold_rom = hold_rom

module _ (setup : Setup) (bytes : Bytes) (cards : List CardBytes) (dev : ℕ) (register : CardRegister)
    (number : IsCardNumber register) (fit : AreCards cards) (are : AreDecoded setup bytes cards) where
  -- by what is found at the device number
  found_is : (card : Option CardBytes) → find (λ card. card.card.dev == dev) cards ≡ card →
      option_map_or (card_windows bytes register) (option_map (λ card. card.card) card) []
      ≡ option_map_or (card_held register) card []
  found_is None there = refl
  found_is (Some card) there =
      let is = (found (DecodesAs setup bytes) cards dev card are.1 there).0 in
      card_is bytes card register number (found (λ card. IsCard card.card) cards dev card fit there).0.count
      (λ k below. (is.bases k below).number) (rom_is bytes card.card.dev card.rom card.card.rom is.rom)

  pub device_is : option_map_or (card_windows bytes register) (card_at setup dev) [] ≡ device_held dev register cards
  device_is = rw (are.0, ← find-cards cards dev) (found_is _ refl)
