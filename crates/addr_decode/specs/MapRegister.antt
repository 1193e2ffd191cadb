-- The registers that the address map depends on, each by its one name.
use Rattle.std.specs.Prelude.{ℕ, ◌≡◌, ◌+◌, ◌-◌, ◌<◌, ◌≤◌, ◌==◌, Bool, true, false, not, ◌&&◌, if◌then◌else◌, List, []}
use Rattle.std.specs.Prelude.{◌∷◌, length, take, map, find, Option, Some, None, is_some, option_map, option_and_then}
use Rattle.board_prelude.specs.{AllByRecursion, Width, Reg, bytes_of, MapChange, Store, Reset, FittedCard, Setup}
use Rattle.board_prelude.specs.{IsCardList, is_within, is_map_byte, reg_after, pam, drb, bridge, isa, card_register}
use Rattle.board_prelude.specs.{card_command, base_register, expansion_rom}
use Rattle.addr_decode.specs.declared.register.MapRegister.{MapRegister}
use Rattle.addr_decode.specs.declared.register.MapRegister.TheVariants.{Pam, RowBoundary, Single, Card}
use Rattle.addr_decode.specs.declared.register.CardRegister.{CardRegister}
use Rattle.addr_decode.specs.declared.register.CardRegister.TheVariants.{Command, Base, ExpansionRom}
use Rattle.addr_decode.specs.Singles.{single, single_count, single_number}

-- ---- where the register of a name stands

abbrev pub offset_of : CardRegister → ℕ
offset_of Command = (card_command 0).off
offset_of (Base k) = (base_register 0 0).off + k
offset_of (ExpansionRom k) = (expansion_rom 0).off + k

abbrev pub place_of : MapRegister → Reg
place_of (Pam k) = pam k
place_of (RowBoundary row) = drb row
place_of (Single number) = single number
place_of (Card dev register) = card_register dev (offset_of register)

-- there are seven PAM, eight rows, the registers of one byte each, and of a card 24 bytes of bases and four of the
-- expansion ROM's register
abbrev pub IsCardNumber : CardRegister → Type 0
IsCardNumber Command = Unit {0}
IsCardNumber (Base k) = k < 24
IsCardNumber (ExpansionRom k) = k < 4

abbrev pub IsNumbered : MapRegister → Type 0
IsNumbered (Pam k) = k < 7
IsNumbered (RowBoundary row) = row < 8
IsNumbered (Single number) = number < single_count
IsNumbered (Card dev register) = (2 ≤ dev) × IsCardNumber register

-- a change stores to at most four registers, and the names that they have are numbered so
abbrev pub IsNumberedName : Option MapRegister → Type 0
IsNumberedName None = Unit {0}
IsNumberedName (Some register) = IsNumbered register

pub record AreNumbered (names : List (Option MapRegister)) : Type 0 where
  pub few : length names ≤ 4
  pub each : AllByRecursion IsNumberedName names

abbrev pub is_of_card : MapRegister → Bool
is_of_card (Card dev register) = true
is_of_card _ = false

-- ---- the name of the register at a place

-- of one byte, in the host bridge, in the ISA bridge, and in a card
abbrev pub named_single : Reg → Option MapRegister
named_single reg = option_map Single (single_number reg)

abbrev pub in_bridge : (off : ℕ) → Option MapRegister
in_bridge off =
    if is_within (pam 0).off (pam 6).off off then Some (Pam (off - (pam 0).off)) else
    if is_within (drb 0).off (drb 7).off off then Some (RowBoundary (off - (drb 0).off)) else named_single (bridge off)

abbrev pub in_isa_bridge : (off : ℕ) → Option MapRegister
in_isa_bridge off = named_single (isa off)

abbrev pub in_card : (off : ℕ) → FittedCard → Option CardRegister
in_card off card =
    if off == (card_command 0).off then Some Command else
    if is_within (base_register 0 0).off ((base_register 0 5).off + 3) off
    then Some (Base (off - (base_register 0 0).off)) else
    if is_some card.rom && is_within (expansion_rom 0).off ((expansion_rom 0).off + 3) off
    then Some (ExpansionRom (off - (expansion_rom 0).off)) else None

abbrev pub in_device : List FittedCard → (dev off : ℕ) → Option MapRegister
in_device cards dev off = option_map (Card dev) (option_and_then (in_card off) (find (λ card. card.dev == dev) cards))

-- on a board with these cards. None where the address map does not depend on it
unfoldable pub map_register : List FittedCard → Reg → Option MapRegister
map_register cards reg =
    if not (reg.fun == 0) then None else
    if reg.dev == 0 then in_bridge reg.off else
    if reg.dev == 1 then in_isa_bridge reg.off else in_device cards reg.dev reg.off

-- the names of the registers that a store covers from one on, and of those that a change does
abbrev pub names_from : List FittedCard → Reg → Width → List (Option MapRegister)
names_from cards reg width = map (λ k. map_register cards (reg_after reg k))
    (take (bytes_of width) (0 ∷ 1 ∷ 2 ∷ 3 ∷ []))

abbrev pub names_of : List FittedCard → MapChange → List (Option MapRegister)
names_of cards Reset = []
names_of cards (Store reg width value) = names_from cards reg width

-- ---- laws of the names, each proved on a function of `laws`

-- exactly the map bytes have a name
abbrev pub MapBytesAreNamed : Type 0
MapBytesAreNamed =
    (setup : Setup) (reg : Reg) → IsCardList setup.cards →
    is_some (map_register setup.cards reg) ≡ is_map_byte setup reg

-- and each name stands for one register
abbrev pub NamesStandForOne : Type 0
NamesStandForOne =
    (cards : List FittedCard) (reg : Reg) (register : MapRegister) → map_register cards reg ≡ Some register →
    place_of register ≡ reg
