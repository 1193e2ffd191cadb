-- What a bus master reaches has the bytes that it asks for.
use Rattle.board_base.specs.declared.target.Area.TheVariants.{Rom as RomArea, Card as CardArea}
use Rattle.board_prelude.proofs.{nat_tests, bytes_of, Kind, Width, Area, Target, Setup, Bytes, memory_claim, target_at}
use Rattle.board_prelude.proofs.{Cell}
use Rattle.std.proofs.Common.{◌≡◌, ℕ, ◌%◌, List, sym, refl, arith}
use Rattle.pci_bars.specs.Cards.{AreFitted}
use Rattle.pci_bars.proofs.WindowLemmas.{IsSized, memory_claim_sized, lies_in_window}
use Rattle.addr_decode.specs.Master.{master_area}
use Rattle.addr_decode.proofs.CardLemmas.{fitted_list}
use Rattle.board_stores.specs.Targets.{IsHeld}
use Rattle.board_chipset.specs.declared.store.Store.{Store}
use Rattle.board_chipset.proofs.HeldTargets.{IsClaim, claim_line, rom_within, lies_in_base}
use Rattle.bus_master.specs.Cells.{Cells, value_in}
use Rattle.board_chipset.specs.Masters.{master_target}
use Rattle.bus_master.specs.Transfer.{master_value}
use Rattle.bus_master.specs.Stores.{IsCell, IsReached}
use Rattle.board_chipset.specs.Stores.{IsStoreOf}

claimed : (setup : Setup) (bytes : Bytes) (addr : ℕ) (kind : Kind) (dev base : ℕ) →
    master_area setup bytes addr kind ≡ CardArea dev base → IsClaim (memory_claim setup bytes addr) dev base
unfolding master_area
claimed setup bytes addr kind dev base is = claim_line _ _ _ _ _ _ _ _ is

module _ {setup : Setup} {bytes : Bytes} {store : Store} (is : IsStoreOf setup bytes store) where
  pub cards_fitted : AreFitted store.regs.cards.items
  cards_fitted = fitted_list store.regs.cards.items setup.cards (sym is.registers.cards.0) is.cards

  held_in : (addr : ℕ) (width : Width) (area : Area) → addr % bytes_of width ≡ 0 →
      ((dev base : ℕ) → area ≡ CardArea dev base → IsClaim (memory_claim setup bytes addr) dev base) →
      IsHeld setup.rom store.contents (target_at setup area addr) width
  held_in addr width RomArea aligned claim = rom_within _ _ _ is.rom_size aligned
  held_in addr width (CardArea dev base) aligned claim =
      let by = claim dev base refl in
      let sized : IsSized setup by.0 =
      memory_claim_sized _ _ _ _ _ cards_fitted.each is.registers.cards by.1 in
      lies_in_base _ _ _ _ _ _ _ sized by.2 by.3 (lies_in_window _ _ _ _ _ sized is.contents aligned)
  held_in addr width _ aligned claim = tt

  pub held : (addr : ℕ) (kind : Kind) (width : Width) → addr % bytes_of width ≡ 0 →
      IsHeld store.rom.items store.contents (master_target setup bytes kind addr) width
  held addr kind width aligned =
      rw is.rom
      (held_in _ _ _ aligned (λ dev base card. claimed _ _ _ _ _ _ card))

-- ---- a read looks at bytes that there can be alone

value_same : (setup : Setup) (rom : List ℕ) (contents : List (List ℕ)) (cells other : Cells) (target : Target)
    (addr : ℕ) (width : Width) → ((cell : Cell) → IsCell cell → cells cell ≡ other cell) →
    IsHeld rom contents target width → value_in setup cells target addr width ≡ value_in setup other target addr width
value_same setup rom contents cells other target addr width same held = grind (arith, nat_tests)

pub master_value_same : {setup : Setup} {bytes : Bytes} {store : Store} → IsStoreOf setup bytes store →
    (cells other : Cells) (addr : ℕ) (width : Width) → addr % bytes_of width ≡ 0 →
    ((cell : Cell) → IsCell cell → cells cell ≡ other cell) →
    master_value setup bytes cells addr width ≡ master_value setup bytes other addr width
master_value_same {setup} {bytes} {store} is cells other addr width aligned same =
    value_same setup store.rom.items store.contents cells other
    (master_target setup bytes Kind.Read addr) addr width same
    (held is addr Kind.Read width aligned)

pub held_at : {store : Store} {area : Area} {addr : ℕ} {kind : Kind} (reached : IsReached store area addr kind)
    (width : Width) → addr % bytes_of width ≡ 0 → (target : Target) → target ≡ target_at reached.setup area addr →
    IsHeld store.rom.items store.contents target width
held_at {store} {area} {addr} {kind} reached width aligned target is =
    rw (is, reached.reached) (held reached.of addr kind width aligned)
