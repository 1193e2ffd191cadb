-- Claims of the cards' registers are those of the windows that a board's registers make.
use Rattle.std.proofs.Common.{◌≡◌, ℕ, ◌+◌, ◌<◌, ◌≤◌, Bool, List, [], ◌∷◌, ◌++◌, length, Option, Some, None, ◌∙◌, refl}
use Rattle.std.proofs.Common.{sym, ap, arith, ◌&&◌, All, flat_map, option_map, if◌then◌else◌, slice_index}
use Rattle.board_prelude.proofs.{enumerate_from, option_or, append-nil, All-head, All-tail, find-append, Base}
use Rattle.board_prelude.proofs.{FittedCard, Setup, IsCard, Bytes, Window, is_covered, base_value, memory_window}
use Rattle.board_prelude.proofs.{rom_window_of, io_window, is_rom_on, vga_window, unselected_windows, io_windows}
use Rattle.board_prelude.proofs.{is_enabled_for, first_window}
use Rattle.pci_bars.specs.declared.claims.Gate.{Gate}
use Rattle.pci_bars.specs.declared.claims.Windows.{Windows}
pub use Rattle.pci_bars.specs.declared.claims.Windows.TheVariants.{Memory, UnselectedRom, Ports}
pub use Rattle.pci_bars.specs.declared.claims.Gate.TheVariants.{Open, Shut}
use Rattle.pci_bars.specs.Cards.{CardBytes, HoldsRom, DecodesAs, AreCards, AreDecoded, cards_of}
use Rattle.pci_bars.specs.Claims.{agrees, covering, rom_claim, vga_claim, covering_base, is_enabled, is_gate}
use Rattle.pci_bars.specs.Claims.{first_claim, base_covers}
use Rattle.std.proofs.lemmas.Bool.Decides.{nat_tests}
use Rattle.std.proofs.lemmas.Grind.{common_steps}

-- device and base of a window
abbrev named : Option Window → Option (ℕ × ℕ)
named found = option_map {U = ℕ × ℕ} (λ window. (window.dev, window.base)) found

-- of the first window that counts and covers a place
abbrev pick : (ℕ → Bool) → ℕ → List Window → Option (ℕ × ℕ)
pick counts place windows = named (first_window counts place windows)

pick-append : (counts : ℕ → Bool) (place : ℕ) (xs ys : List Window) →
    pick counts place (xs ++ ys) ≡ option_or (pick counts place xs) (pick counts place ys)
pick-append counts place xs ys =
    let found = find-append (λ window. counts window.dev && is_covered place window) xs ys in grind arith

-- a base of a device, if the device counts
abbrev claimed : Bool → ℕ → Option ℕ → Option (ℕ × ℕ)
claimed counted dev base = if counted then option_map (λ base. (dev, base)) base else None

-- ---- the windows of one card

abbrev pub window_in : Windows → Bytes → ℕ → ℕ → Base → List Window
window_in Memory bytes dev k base = memory_window bytes dev k base
window_in UnselectedRom bytes dev k base = []
window_in Ports bytes dev k base = io_window bytes dev k base

abbrev pub base_windows : Windows → Bytes → ℕ → ℕ → List Base → List Window
base_windows windows bytes dev k bases =
    flat_map (λ numbered. window_in windows bytes dev numbered.0 numbered.1) (enumerate_from k bases)

-- the ROM's window where it is among these
abbrev pub rom_windows : Windows → Bytes → ℕ → Option ℕ → List Window
rom_windows Memory bytes dev rom = if is_rom_on bytes dev then rom_window_of bytes dev rom else []
rom_windows UnselectedRom bytes dev rom = if is_rom_on bytes dev then [] else rom_window_of bytes dev rom
rom_windows Ports bytes dev rom = []

abbrev pub vga_windows : Windows → FittedCard → List Window
vga_windows Memory card = vga_window card
vga_windows UnselectedRom card = []
vga_windows Ports card = []

-- its windows of such a kind, by their base numbers
abbrev pub windows_in : Windows → Bytes → FittedCard → List Window
windows_in windows bytes card =
    (base_windows windows bytes card.dev 0 card.bases ++ rom_windows windows bytes card.dev card.rom)
    ++ vga_windows windows card

module _ (counts : ℕ → Bool) (bytes : Bytes) (place : ℕ) where
  -- these windows claim such a base of a device
  abbrev Claims : List Window → ℕ → Option ℕ → Type 0
  Claims windows dev base = pick counts place windows ≡ claimed (counts dev) dev base

  none : (dev : ℕ) → Claims [] dev None
  none dev = grind arith

  -- a window first in the list
  first_of :
      (dev k bits value held : ℕ) (windows : List Window) (later : Option ℕ) → value ≡ held →
      Claims windows dev later →
      Claims (record { dev = dev; base = k; inside = value; bits = bits } ∷ windows) dev
      (if agrees bits held place then Some k else later)
  first_of dev k bits value held windows later same rest = grind arith

  both : (dev : ℕ) (xs ys : List Window) (a b : Option ℕ) → Claims xs dev a → Claims ys dev b →
      Claims (xs ++ ys) dev (option_or a b)
  both dev xs ys a b first later = grind (arith, nat_tests, pick-append)

  pick_base :
      (windows : Windows) (dev k held : ℕ) (base : Base) (rest : List Window) (later : Option ℕ) →
      base_value bytes dev k ≡ held → Claims rest dev later →
      Claims (window_in windows bytes dev k base ++ rest) dev
      (if base_covers windows base held place then Some k else later)
  pick_base windows dev k held base rest later same is = grind arith

  pick_bases : (windows : Windows) (dev : ℕ) (values : List ℕ) →
      ((k : ℕ) → k < 6 → base_value bytes dev k ≡ slice_index values k) → (k : ℕ) (bases : List Base) →
      k + length bases ≤ 6 → Claims (base_windows windows bytes dev k bases) dev (covering windows values place k bases)
  pick_bases windows dev values same k [] few = grind (arith, nat_tests, common_steps, none)
  pick_bases windows dev values same k (base ∷ later) few =
      grind (arith, nat_tests, common_steps, none, pick_bases windows dev values same (k + 1) later (omega arith))

  pick_rom : (windows : Windows) (dev register : ℕ) (rom : Option ℕ) → HoldsRom bytes dev register rom →
      Claims (rom_windows windows bytes dev rom) dev (rom_claim windows rom register place)
  pick_rom windows dev register rom held = grind (arith, nat_tests)

  pick_vga : (windows : Windows) (card : FittedCard) →
      Claims (vga_windows windows card) card.dev (vga_claim windows card.vga place)
  pick_vga windows card = grind arith

  pick_card : (windows : Windows) (setup : Setup) (card : CardBytes) → IsCard card.card → DecodesAs setup bytes card →
      Claims (windows_in windows bytes card.card) card.card.dev (covering_base windows place card)
  pick_card windows setup card fit is = grind (arith, nat_tests, both, pick_bases, pick_rom, pick_vga)

  pick_cards :
      (windows : Windows) (gate : Gate) (setup : Setup) →
      ((card : CardBytes) → DecodesAs setup bytes card →
      counts card.card.dev ≡ is_gate gate (is_enabled windows card)) →
      (cards : List CardBytes) → AreCards cards → All (DecodesAs setup bytes) cards →
      pick counts place (flat_map (windows_in windows bytes) (cards_of cards)) ≡ first_claim windows gate place cards
  pick_cards windows gate setup counted [] fit are = refl
  pick_cards windows gate setup counted (card ∷ later) fit are =
      let is = All-head (DecodesAs setup bytes) card later are in
      pick-append counts place (windows_in windows bytes card.card)
      (flat_map (windows_in windows bytes) (cards_of later))
      ∙ rw (
        pick_card windows setup card (All-head (λ card. IsCard card.card) card later fit) is,
        pick_cards windows gate setup counted later (All-tail (λ card. IsCard card.card) card later fit)
            (All-tail (DecodesAs setup bytes) card later are),
        counted card is,
      ) refl

-- the bit of the command register that enables these windows
abbrev pub enable_bit : Windows → ℕ
enable_bit Ports = 0
enable_bit _ = 1

enabled_is : (windows : Windows) (setup : Setup) (bytes : Bytes) (card : CardBytes) → DecodesAs setup bytes card →
    is_enabled_for (enable_bit windows) bytes card.card.dev ≡ is_enabled windows card
enabled_is windows setup bytes card is = grind (arith, is.command)

-- cards have no ROM and no VGA window among the ports
pub io_windows_are : (bytes : Bytes) (card : FittedCard) → windows_in Ports bytes card ≡ io_windows bytes card
io_windows_are bytes card = append-nil (io_windows bytes card ++ []) ∙ append-nil (io_windows bytes card)

-- and no other among those of the ROMs
pub rom_windows_are : (bytes : Bytes) (card : FittedCard) →
    windows_in UnselectedRom bytes card ≡ unselected_windows bytes card
rom_windows_are bytes card = rw (no_bases 0 card.bases) (append-nil (unselected_windows bytes card))
  where
    no_bases : (k : ℕ) (bases : List Base) → base_windows UnselectedRom bytes card.dev k bases ≡ []
    no_bases k [] = refl
    no_bases k (base ∷ later) = no_bases (k + 1) later

module _ (setup : Setup) (bytes : Bytes) (cards : List CardBytes) (place : ℕ) (fit : AreCards cards)
    (are : AreDecoded setup bytes cards) (windows : Windows) (gate : Gate) (windows_of : FittedCard → List Window)
    (same : (card : FittedCard) → windows_in windows bytes card ≡ windows_of card) where
  -- the windows of such a kind of all cards
  pub windows_are : flat_map (windows_in windows bytes) (cards_of cards) ≡ flat_map windows_of setup.cards
  windows_are = grind (arith, nat_tests)

  abbrev claim : Option Window
  claim =
      first_window (λ dev. is_gate gate (is_enabled_for (enable_bit windows) bytes dev)) place
      (flat_map windows_of setup.cards)

  -- the claim of the cards' registers is that of the setup's windows, and so is its device
  pub claim_is : first_claim windows gate place cards ≡ named claim
  claim_is =
      rw (← windows_are) (sym (pick_cards (λ dev. is_gate gate (is_enabled_for (enable_bit windows) bytes dev)) _ place
      _ _ _ (λ card is. ap (is_gate gate) (enabled_is windows _ _ _ is)) _ fit are.1))

  pub device_is : option_map {T = ℕ × ℕ} (λ named. named.0)
      (first_claim windows gate place cards) ≡ option_map (λ window. window.dev) claim
  device_is = grind (arith, nat_tests, claim_is)
