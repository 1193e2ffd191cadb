-- Boards that have the same registers have the same areas at each address.
use Rattle.std.proofs.Common.{◌≡◌, ℕ, ◌+◌, ◌*◌, ◌/◌, ◌%◌, ◌<◌, ◌≤◌, Bool, false, true, Option, Some, None, refl, sym}
use Rattle.std.proofs.Common.{◌∙◌, arith, ◌==◌, is_some, find, lit<}
use Rattle.board_prelude.proofs.{common_steps, false≢true, nat_tests, ne_eqb, Kind, Reg, Setup, IsCardList, Bytes}
use Rattle.board_prelude.proofs.{memory_claim, area_of, card_register, six_areas, touches_map, MapChange, untouched}
use Rattle.board_prelude.proofs.{SameMapBytes, map_bytes_decide, is_map_byte}
use Rattle.map_builder.specs.Changed.{after}
use Rattle.pci_bars.specs.Cards.{CardBytes, HoldsRom, DecodesAs}
use Rattle.pci_bars.proofs.CardListLemmas.{found, card_is}
use Rattle.addr_decode.specs.declared.register.MapRegister.{MapRegister}
use Rattle.addr_decode.specs.declared.register.MapRegister.TheVariants.{Pam, RowBoundary, Single, Card}
use Rattle.addr_decode.specs.declared.register.CardRegister.{CardRegister}
use Rattle.addr_decode.specs.declared.register.CardRegister.TheVariants.{Command, Base, ExpansionRom}
use Rattle.addr_decode.specs.MapRegister.{place_of, offset_of, IsNumbered, IsCardNumber, map_register}
use Rattle.addr_decode.specs.MapRegs.{MapBytes, StandsFor}
use Rattle.addr_decode.proofs.CardLemmas.{no_low_fitted}
use Rattle.addr_decode.proofs.NameLemmas.{is_name, named}

module _ {regs : MapBytes} {setup setup' : Setup} {bytes bytes' : Bytes} (stands : StandsFor setup bytes regs)
    (stands' : StandsFor setup' bytes' regs) where
  -- the same byte in a register
  abbrev pub Same : Reg → Type 0
  Same reg = bytes reg ≡ bytes' reg

  -- ---- a register of a card, where it is a map byte

  rom_same : (dev register k : ℕ) (rom : Option ℕ) → k < 4 → is_some rom ≡ true → HoldsRom bytes dev register rom →
      HoldsRom bytes' dev register rom → Same (card_register dev (0x30 + k))
  rom_same dev register k rom below has holds holds' = grind (arith, nat_tests)

  decoded_same : (card : CardBytes) (register : CardRegister) → 2 ≤ card.card.dev → IsCardNumber register →
      DecodesAs setup bytes card → DecodesAs setup' bytes' card →
      is_map_byte setup (card_register card.card.dev (offset_of register)) ≡ true →
      Same (card_register card.card.dev (offset_of register))
  decoded_same card Command above number decodes decodes' is = decodes.command ∙ sym decodes'.command
  decoded_same card (Base k) above number decodes decodes' is =
      let place : 0x10 + 4 * (k / 4) + k % 4 ≡ 0x10 + k = omega arith in
      rw place at ((decodes.bases (k / 4) (omega (arith, number))).each (k % 4) (omega arith)
      ∙ sym ((decodes'.bases (k / 4) (omega (arith, number))).each (k % 4) (omega arith)))
  decoded_same card (ExpansionRom k) above number decodes decodes' is =
      let here =
      rw (ne_eqb card.card.dev 0 (omega arith), ne_eqb card.card.dev 1 (omega arith), decodes.fitted) at is in
      rom_same card.card.dev card.rom k card.card.rom number (grind (arith, nat_tests)) decodes.rom decodes'.rom

  found_same : (card : Option CardBytes) (dev : ℕ) (register : CardRegister) → 2 ≤ dev → IsCardNumber register →
      find (λ card. card.card.dev == dev) regs.cards ≡ card →
      is_map_byte setup (card_register dev (offset_of register)) ≡ true → Same (card_register dev (offset_of register))
  found_same None dev register above number there is =
      let none = card_is setup regs.cards dev None stands.cards.0 (sym there) in
      absurd (false≢true (rw (ne_eqb dev 0 (omega arith), ne_eqb dev 1 (omega arith), ← none) at is))
  found_same (Some card) dev register above number there is =
      let one = found (DecodesAs setup bytes) regs.cards dev card stands.cards.1 there in
      let two = found (DecodesAs setup' bytes') regs.cards dev card stands'.cards.1 there in
      rw one.1 at (decoded_same card register (rw one.1 above) number one.0 two.0 (rw one.1 is))

  -- ---- each register with a name

  register_same : (register : MapRegister) → IsNumbered register → is_map_byte setup (place_of register) ≡ true →
      Same (place_of register)
  register_same (Pam k) number is = grind (arith, nat_tests)
  register_same (RowBoundary row) number is = sym (stands.rows row number) ∙ stands'.rows row number
  register_same (Single k) number is = sym (stands.singles k number) ∙ stands'.singles k number
  register_same (Card dev register) number is = found_same _ dev register number.0 number.1 refl is

  named_same : (reg : Reg) (name : Option MapRegister) → map_register setup.cards reg ≡ name → is_some name ≡ true →
      is_map_byte setup reg ≡ true → Same reg
  named_same reg None named some is = absurd (false≢true some)
  named_same reg (Some register) named some is =
      let name = is_name setup.cards reg register named in
      rw name.place at (register_same register name.number (rw name.place is))

  map_bytes_same : IsCardList setup.cards → SameMapBytes setup bytes bytes'
  map_bytes_same list reg is =
      named_same reg _ refl (named setup reg (no_low_fitted setup 0 (lit< tt) list)
      (no_low_fitted setup 1 (lit< tt) list) ∙ is) is

  module _ (list : IsCardList setup.cards) (addr : ℕ) where
    area_same : (kind : Kind) (smm : Bool) → area_of setup bytes addr kind smm ≡ area_of setup' bytes' addr kind smm
    unfolding area_of memory_claim
    area_same kind smm =
        (map_bytes_decide setup bytes bytes' list (map_bytes_same list) addr kind smm).0
        ∙ rw (stands.cards.0 ∙ sym stands'.cards.0) refl

    pub boards_same : six_areas setup bytes addr ≡ six_areas setup' bytes' addr
    boards_same = grind (arith, nat_tests, common_steps, area_same)

-- a change that covers no byte on which the map depends keeps every area
pub untouched_areas : (setup : Setup) (bytes : Bytes) (change : MapChange) → IsCardList setup.cards →
    touches_map setup change ≡ false →
    (addr : ℕ) → six_areas setup (after setup change bytes) addr ≡ six_areas setup bytes addr
untouched_areas setup bytes change list not addr =
    grind (arith, nat_tests, common_steps, map_bytes_decide, untouched)
