-- The names of the registers: exactly the map bytes have one, and each stands for one register.
use Rattle.std.proofs.Common.{◌≡◌, ◌≢◌, ℕ, ◌+◌, ◌<◌, ◌≤◌, true, false, ◌&&◌, ◌||◌, Option, Some, None, List, [], ◌∷◌}
use Rattle.std.proofs.Common.{◌++◌, length, get_or, inl, inr, refl, sym, ◌∙◌, arith, take, lit<, ◌==◌, map, find}
use Rattle.std.proofs.Common.{is_some, option_map, option_and_then, rules, IfSome}
use Rattle.board_prelude.proofs.{position, AllByRecursion, list_any, and-true, and-false, cases_Bool, ne_eqb, nat_tests}
use Rattle.board_prelude.proofs.{Width, One, Reg, bytes_of, MapChange, Store, Reset, FittedCard, Setup, card_at}
use Rattle.board_prelude.proofs.{is_within, bridge, isa, card_register, is_host_byte, has_rom, is_map_byte, reg_after}
use Rattle.board_prelude.proofs.{touches_map, bytes_few, each_below, or-false}
use Rattle.std.proofs.lemmas.List.{map_more}
use Rattle.std.proofs.lemmas.List.Quantifiers.{position-Some}
use Rattle.std.proofs.lemmas.Option.{slice_get-get_or}
use Rattle.pci_bars.proofs.CardListLemmas.{find-cards, at_position}
use Rattle.addr_decode.specs.declared.register.MapRegister.{MapRegister}
use Rattle.addr_decode.specs.declared.register.MapRegister.TheVariants.{Single, Card}
use Rattle.addr_decode.specs.MapRegister.{place_of, IsNumbered, IsNumberedName, AreNumbered, in_bridge, in_isa_bridge}
use Rattle.addr_decode.specs.MapRegister.{in_card, in_device, map_register, names_from, names_of, MapBytesAreNamed}
use Rattle.addr_decode.specs.MapRegister.{NamesStandForOne}
use Rattle.addr_decode.specs.Singles.{single, single_count, single_number}
use Rattle.pci_bars.specs.Cards.{CardBytes, AreFitted, cards_of}
use Rattle.addr_decode.proofs.CardLemmas.{no_low_card, no_low_fitted}
use Rattle.addr_decode.proofs.SingleLemmas.{number_stands}

-- ---- the map bytes of each function

no_rom : (card : Option FittedCard) → is_some card ≡ false → has_rom card ≡ false
no_rom card none = grind arith

-- PAM, the boundaries of rows and the registers of one byte are map bytes, and so are those of a fitted card
pub block_is_byte : (setup : Setup) (off : ℕ) → 0x59 ≤ off → off ≤ 0x67 → is_map_byte setup (bridge off) ≡ true
block_is_byte setup off from to =
    let is : is_host_byte off ≡ true = grind (arith, nat_tests) in rw is refl

pub single_is_byte : (setup : Setup) (k : ℕ) → k < single_count → is_map_byte setup (single k) ≡ true
single_is_byte setup k below = each_below (λ k. is_map_byte setup (single k) ≡ true) single_count k (search rules) below

pub card_is_byte : (setup : Setup) (dev off : ℕ) → is_some (card_at setup dev) ≡ true →
    (off == 0x04 || is_within 0x10 0x27 off) ≡ true → is_map_byte setup (card_register dev off) ≡ true
card_is_byte setup dev off fitted is = grind (arith, nat_tests)

pub rom_is_byte : (setup : Setup) (dev off : ℕ) → has_rom (card_at setup dev) ≡ true → is_within 0x30 0x33 off ≡ true →
    is_map_byte setup (card_register dev off) ≡ true
rom_is_byte setup dev off fitted is = grind (arith, nat_tests)

-- ---- each kind of register and its name

-- what holds of a register and its name, by the function that has the register
by_function :
    (P : Reg → Option MapRegister → Type 0) (cards : List FittedCard) → ((reg : Reg) → reg.fun ≢ 0 → P reg None) →
    ((off : ℕ) → P (bridge off) (in_bridge off)) → ((off : ℕ) → P (isa off) (in_isa_bridge off)) →
    ((dev off : ℕ) → 2 ≤ dev → P (card_register dev off) (in_device cards dev off)) →
    (reg : Reg) → P reg (map_register cards reg)
unfolding map_register
by_function P cards other host south device reg = grind (arith, nat_tests)

pub is_named : {X Y : Type 0} (f : X → Y) (name : Option X) → is_some (option_map f name) ≡ is_some name
is_named f name = grind arith

-- ---- they have a name

pub bridge_named : (off : ℕ) → is_some (in_bridge off) ≡ is_host_byte off
bridge_named off = grind (arith, nat_tests)

pub isa_named : (off : ℕ) → is_some (in_isa_bridge off) ≡ (off == 0x4E)
isa_named off = elim (cases_Bool (off == 0x4E)) [ inl here ↦ rw here refl | inr beside ↦ rw beside refl ]

device_named : (fitted : Option FittedCard) (dev off : ℕ) →
    is_some (option_map (Card dev) (option_and_then (in_card off) fitted))
    ≡ (is_some fitted && (off == 0x04 || is_within 0x10 0x27 off) || has_rom fitted && is_within 0x30 0x33 off)
device_named fitted dev off = grind (arith, nat_tests)

pub named : (setup : Setup) (reg : Reg) → is_some (card_at setup 0) ≡ false → is_some (card_at setup 1) ≡ false →
    is_some (map_register setup.cards reg) ≡ is_map_byte setup reg
named setup reg none0 none1 =
    by_function (λ reg name. is_some name ≡ is_map_byte setup reg) setup.cards
    (λ reg other. sym (simp (ne_eqb reg.fun 0 other, and-false)))
    (λ off. bridge_named off ∙ sym (simp (none0, no_rom (card_at setup 0) none0, or-false)))
    (λ off. isa_named off ∙ sym (simp (none1, no_rom (card_at setup 1) none1, or-false)))
    (λ dev off above. device_named (card_at setup dev) dev off ∙ sym (simp (
      ne_eqb dev 0 (omega arith),
      ne_eqb dev 1 (omega arith),
      and-true,
    ))) reg

-- ---- a name stands for one register

-- the register at a place has this name, whose number is in its range
pub record IsNameAt (register : MapRegister) (reg : Reg) : Type 0 where
  pub place : place_of register ≡ reg
  pub number : IsNumbered register

abbrev AreNamed : Option MapRegister → Reg → Type 0
AreNamed name reg = IfSome name (λ register. IsNameAt register reg)

single_names : (reg : Reg) (number : Option ℕ) → single_number reg ≡ number → AreNamed (option_map Single number) reg
single_names reg number told = grind (arith, number_stands reg)

bridge_names : (off : ℕ) → AreNamed (in_bridge off) (bridge off)
bridge_names off = grind (arith, nat_tests, single_names (bridge off) _ refl)

names_at : (cards : List FittedCard) (reg : Reg) → AreNamed (map_register cards reg) reg
names_at cards =
    by_function (λ reg name. AreNamed name reg) cards (λ _ _. tt) bridge_names (λ off. single_names (isa off) _ refl)
    (λ dev off above. grind (arith, nat_tests))

pub is_name : (cards : List FittedCard) (reg : Reg) (register : MapRegister) → map_register cards reg ≡ Some register →
    IsNameAt register reg
is_name cards reg register is = rw is at (names_at cards reg)

-- ---- the names of the registers that a store covers

abbrev pub offsets : List ℕ
offsets = 0 ∷ 1 ∷ 2 ∷ 3 ∷ []

pub offset_at : (k : ℕ) → k < 4 → get_or offsets k 0 ≡ k
offset_at k below = each_below (λ k. get_or offsets k 0 ≡ k) 4 k (search rules) below

pub count_names : (cards : List FittedCard) (reg : Reg) (width : Width) →
    length (names_from cards reg width) ≡ bytes_of width
count_names cards reg width = grind arith

pub names_touch : (setup : Setup) (reg : Reg) (width : Width) (value : ℕ) → is_some (card_at setup 0) ≡ false →
    is_some (card_at setup 1) ≡ false →
    list_any is_some (names_from setup.cards reg width) ≡ touches_map setup (Store reg width value)
names_touch setup reg width value none0 none1 = grind (arith, nat_tests, named)

-- a register with a name is a map byte of each board with these cards
pub named_byte : (setup : Setup) (cards : List CardBytes) (reg : Reg) (register : MapRegister) → AreFitted cards →
    setup.cards ≡ cards_of cards → map_register (cards_of cards) reg ≡ Some register →
    is_map_byte setup (place_of register) ≡ true
named_byte setup cards reg register fitted same is =
    let low = λ (dev : ℕ) (below : dev < 2). no_low_card setup cards dev below fitted.each same in
    rw (
      (is_name (cards_of cards) reg register is).place,
      ← named setup reg (low 0 (lit< tt)) (low 1 (lit< tt)),
      same,
      is,
    ) refl

-- the name of a register among those of a store, where the cards are still the same
pub named_so_far : (cards cards' : List CardBytes) (reg : Reg) (width : Width) (k : ℕ)
    (names : List (Option MapRegister)) (d : Option MapRegister) → k < bytes_of width →
    cards_of cards' ≡ cards_of cards → names ≡ names_from (cards_of cards) reg width →
    get_or names k d ≡ map_register (cards_of cards') (reg_after reg k)
named_so_far cards cards' reg width k names d below same are =
    rw (are, same) (grind (arith, nat_tests))

-- no register past offset FFh has a name
pub none_past : (cards : List FittedCard) (reg : Reg) → 256 ≤ reg.off → map_register cards reg ≡ None
none_past cards =
    by_function (λ reg name. 256 ≤ reg.off → name ≡ None) cards (λ reg other past. refl)
    (λ off past. grind (arith, nat_tests)) (λ off past. grind (arith, nat_tests))
    (λ dev off above past. grind (arith, nat_tests))

-- one more name
pub one_more_named : (cards : List FittedCard) (reg : Reg) (k : ℕ) (names names' : List (Option MapRegister))
    (name : Option MapRegister) → k < 4 → names ≡ map (λ k. map_register cards (reg_after reg k)) (take k offsets) →
    name ≡ map_register cards (reg_after reg k) → names' ≡ names ++ name ∷ [] →
    names' ≡ map (λ k. map_register cards (reg_after reg k)) (take (k + 1) offsets)
one_more_named cards reg k names names' name below so_far is pushed =
    rw (map_more (λ k. map_register cards (reg_after reg k)) offsets k 0 below, offset_at k below, ← so_far, ← is)
    pushed

-- ---- they are numbered

name_numbered : (name : Option MapRegister) (reg : Reg) → AreNamed name reg → IsNumberedName name
name_numbered name reg is = grind arith

all_numbered : (cards : List FittedCard) (reg : Reg) (ks : List ℕ) →
    AllByRecursion IsNumberedName (map (λ k. map_register cards (reg_after reg k)) ks)
all_numbered cards reg [] = tt
all_numbered cards reg (k ∷ later) =
    (name_numbered _ (reg_after reg k) (names_at cards (reg_after reg k)), all_numbered cards reg later)

pub names_numbered : (cards : List FittedCard) (change : MapChange) → AreNumbered (names_of cards change)
names_numbered cards Reset = record { few = omega arith; each = tt }
names_numbered cards (Store reg width value) = record {
  few = omega (arith, count_names cards reg width, bytes_few width);
  each = all_numbered cards reg (take (bytes_of width) offsets);
}

-- ---- the name of a register by its function

pub one_name : (cards : List FittedCard) (reg : Reg) (name : Option MapRegister) → name ≡ map_register cards reg →
    name ∷ [] ≡ names_from cards reg One
one_name cards reg name is = grind (arith, nat_tests)

-- the card at a place has the device number that is found there
pub card_found : (cards : List CardBytes) (dev place : ℕ) (d : CardBytes) →
    position (λ card. card.card.dev == dev) cards ≡ Some place →
    Some (get_or cards place d).card ≡ find (λ card. card.dev == dev) (cards_of cards)
card_found cards dev place d at =
    let within : place < length cards = (position-Some (λ card. card.card.dev == dev) cards place d at).0 in
    rw (← find-cards cards dev, ← at_position cards dev place (sym at), slice_get-get_or cards place d within) refl

pub ruleset at_place = (nat_tests, card_found)

pub map_bytes_named : MapBytesAreNamed
map_bytes_named setup reg list =
    let low = λ (dev : ℕ) (below : dev < 2). no_low_fitted setup dev below list in
    named setup reg (low 0 (lit< tt)) (low 1 (lit< tt))

pub names_stand : NamesStandForOne
names_stand cards reg register is = (is_name cards reg register is).place
