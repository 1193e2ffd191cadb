-- What an access reaches has the bytes that it asks for.
use Rattle.std.proofs.Common.{◌≡◌, ℕ, ◌+◌, ◌%◌, ◌^◌, ◌≤◌, Bool, List, [], ◌∷◌, Option, Some, refl, sym, arith}
use Rattle.std.proofs.Common.{option_map}
use Rattle.board_prelude.proofs.{PortAccess, Width, Dev, Reg, Area, Target, Device, Config, Card, Abort, bytes_of, Part}
use Rattle.board_prelude.proofs.{Setup, IsRomSize, IsBusAccess, is_write, Window, first_of, line_where, card_area}
use Rattle.board_prelude.proofs.{memory_claim, area_of, window_bits, target_at, nat_tests}
use Rattle.board_base.specs.declared.access.Access.{Access}
use Rattle.board_base.specs.declared.target.Area.TheVariants as areas
use Rattle.pci_bars.specs.Cards.{AreFitted}
use Rattle.pci_bars.specs.Contents.{LiesIn}
use Rattle.pci_bars.proofs.WindowLemmas.{IsSized, memory_claim_sized, io_claim_sized, lies_in_window}
use Rattle.addr_decode.specs.MapRegs.{MapBytes, StandsFor}
use Rattle.addr_decode.proofs.CardLemmas.{fitted_list}
use Rattle.board_stores.specs.Targets.{IsStored, IsHeld, part_in}
use Rattle.board_stores.specs.Ready.{IsReady}
use Rattle.board_chipset.specs.declared.state.State.{State}
use Rattle.board_chipset.specs.Kept.{IsSound}
use Rattle.board_chipset.specs.Ports.{Reaching}
use Rattle.board_chipset.proofs.PortSteps.{IsReached, IsNoDevice, IsNoRegister, reached_in}
use Rattle.board_chipset.proofs.StateSteps.{sound_put}

-- ---- memory

-- a card answers where one of its windows claims the address
abbrev pub IsClaim : Option Window → ℕ → ℕ → Type 0
IsClaim claim dev base = (window : Window) × (claim ≡ Some window) × (window.dev ≡ dev) × (window.base ≡ base)

pub claim_line :
    (smram shadow dram rom : Bool) (row : ℕ) (claim : Option Window) (dev base : ℕ) →
    first_of
    (line_where smram areas.Smram ∷ line_where shadow (areas.Shadow row) ∷ line_where dram (areas.Dram row)
    ∷ line_where rom areas.Rom ∷ option_map card_area claim ∷ [])
    areas.Abort
    ≡ areas.Card dev base →
    IsClaim claim dev base
claim_line smram shadow dram rom row claim dev base is = grind (arith, nat_tests)

-- an aligned access ends within the ROM
pub rom_within : (addr size : ℕ) (width : Width) → IsRomSize size → addr % bytes_of width ≡ 0 →
    addr % size + bytes_of width ≤ size
rom_within addr size width is aligned = grind (arith, nat_tests)

pub lies_in_base : (setup : Setup) (contents : List (List ℕ)) (window : Window) (dev base place : ℕ) (width : Width) →
    IsSized setup window → window.dev ≡ dev → window.base ≡ base →
    LiesIn contents window.dev window.base (place % 2 ^ window.bits) width →
    LiesIn contents dev base (place % 2 ^ window_bits setup dev base) width
lies_in_base setup contents window dev base place width sized device number lies =
    rw (← device, ← number, ← sized.bits) lies

module _ {setup : Setup} {state : State} (kept : IsSound setup state) where
  -- registers that are those of the map
  pub stands : {regs : MapBytes} → regs ≡ state.registers.map.regs → StandsFor setup kept.registers.bytes regs
  stands same = rw same kept.registers.kept.map

  cards_fitted : AreFitted state.registers.map.regs.cards
  cards_fitted = fitted_list _ _ (sym kept.registers.kept.cards.0) kept.fits.cards

  held_in : (addr : ℕ) (width : Width) (area : Area) → addr % bytes_of width ≡ 0 →
      ((dev base : ℕ) → area ≡ areas.Card dev base → IsClaim (memory_claim setup kept.registers.bytes addr) dev base) →
      IsHeld setup.rom state.stores.contents (target_at setup area addr) width
  held_in addr width areas.Rom aligned claim = rom_within _ _ _ kept.fits.rom aligned
  held_in addr width (areas.Card dev base) aligned claim =
      let by = claim dev base refl in
      let sized = memory_claim_sized _ _ _ _ _ cards_fitted.each kept.registers.kept.map.cards by.1 in
      grind (arith, nat_tests, lies_in_window _ _ _ _ _ sized kept.contents aligned)
  held_in addr width _ aligned claim = tt

  pub ready : {rom : List ℕ} {access : Access} {answer : Part} → setup.rom ≡ rom →
      IsBusAccess (is_write access.kind) access.addr access.width access.value →
      answer ≡ part_in setup kept.registers.bytes access → IsReady rom state.stores.contents access answer
  unfolding area_of
  ready {rom} {access} image bus is = record {
    bus = bus;
    held = rw (is, ← image)
        (held_in _ _ _ bus.aligned (λ dev base is. claim_line _ _ _ _ _ _ _ _ is));
  }

  stored_target : (port : ℕ) (width : Width) (target : Target) → port % bytes_of width ≡ 0 →
      IsReached setup kept.registers.bytes state.registers.address port width target →
      ((dev : Dev) → target ≡ Device dev → ⊥) → ((reg : Reg) → target ≡ Config reg → ⊥) →
      IsStored state.stores.contents target width
  stored_target port width (Device dev) aligned is device config = absurd (device dev refl)
  stored_target port width (Config reg) aligned is device config = absurd (config reg refl)
  stored_target port width (Card dev base off) aligned is device config =
      let sized = io_claim_sized _ _ _ _ _ cards_fitted.each kept.registers.kept.map.cards is.1.1 in
      grind (arith, nat_tests, lies_in_window _ _ _ _ _ sized kept.contents aligned)
  stored_target port width Abort aligned is device config = tt
  stored_target port width _ aligned is device config = absurd is

pub stored_in : {state : State} {access : PortAccess} {target : Target} → Reaching state access target →
    IsNoDevice target → IsNoRegister target → IsStored state.stores.contents target access.width
stored_in {access = access} {target} reaching =
    stored_target reaching.kept.sound access.port access.width target reaching.bus.aligned (reached_in reaching)

-- `write` is proved by these
pub ruleset write_rules = (sound_put, stored_in, nat_tests)
