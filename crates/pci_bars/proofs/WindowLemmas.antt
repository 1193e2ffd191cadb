-- The window that claims a place has the size of its base, and an access that it claims lies in its contents.
use Rattle.std.proofs.Common.{sym, subst, ◌≡◌, ◌≢◌, ◌⊎◌, ℕ, suc, ◌+◌, ◌-◌, ◌*◌, ◌%◌, ◌^◌, ◌<◌, ◌≤◌, Bool, List, [], ◌∷◌}
use Rattle.std.proofs.Common.{◌++◌, length, Some, ◌∙◌, ap, arith, All, find, flat_map, slice_get, pow-add, pow_pos}
use Rattle.board_prelude.proofs.{nil_from_length, All-nil, All-cons, All-head, All-tail, All-append, base_value, Base}
use Rattle.board_prelude.proofs.{FittedCard, Setup, IsBase, IsCard, card_at, kept_size, Width, bytes_of, window_bits}
use Rattle.board_prelude.proofs.{bits_of_base, Bytes, Window, io_windows, memory_claim, io_claim}
use Rattle.std.proofs.lemmas.Nat.{mod-pow-add}
use Rattle.std.proofs.lemmas.List.Elements.{All-map}
use Rattle.std.proofs.Math.Nat.{mod-lt}
use Rattle.pci_bars.specs.declared.claims.Windows.{Windows}
use Rattle.pci_bars.specs.Cards.{CardBytes, AreCards, AreDecoded, cards_of}
use Rattle.pci_bars.specs.Contents.{IsBaseNumber, LiesIn, HaveSizes}
use Rattle.pci_bars.proofs.BaseLemmas.{is_base}
use Rattle.pci_bars.proofs.ClaimLemmas.{window_in, base_windows, rom_windows, vga_windows, windows_in, windows_are}
use Rattle.pci_bars.proofs.ClaimLemmas.{io_windows_are, Memory, Ports, Open}
use Rattle.std.proofs.lemmas.Bool.Decides.{nat_tests}

-- of a base of 2 ^ bits bytes all are kept, or none
abbrev IsKeptAs : (size bits : ℕ) → Type 0
IsKeptAs size bits = (size ≡ 0) ⊎ (size ≡ 2 ^ bits)

-- a window is that of a base of the setup's cards, and has its size
pub record IsSized (setup : Setup) (window : Window) : Type 0 where
  pub number : IsBaseNumber window.dev window.base
  pub least : 2 ≤ window.bits
  pub bits : window.bits ≡ window_bits setup window.dev window.base
  pub size : window.base ≢ 6 → IsKeptAs (kept_size (card_at setup window.dev) window.base) window.bits

pub All-find : (P : Window → Type 0) (test : Window → Bool) (windows : List Window) (window : Window) → All P windows →
    find test windows ≡ Some window → P window
All-find P test [] window each found = absurd (cc)
All-find P test (first ∷ later) window each found =
    let here = All-head P first later each in
    let rest = All-find P test later window (All-tail P first later each) in
    grind (arith, here, rest)

pub least_bits : (base : Base) → IsBase base → 2 ≤ bits_of_base (Some base)
least_bits base fit = grind arith

pub record AreSized (setup : Setup) (windows : List Window) : Type 0 where
  pub each : All (IsSized setup) windows

no_windows : {setup : Setup} → AreSized setup []
no_windows {setup} = record { each = All-nil (IsSized setup) }

one_sized : {setup : Setup} {window : Window} → IsSized setup window → AreSized setup (window ∷ [])
one_sized {setup} {window} is = record { each = All-cons (IsSized setup) window [] is (All-nil (IsSized setup)) }

both_sized : {setup : Setup} {xs ys : List Window} → AreSized setup xs → AreSized setup ys → AreSized setup (xs ++ ys)
both_sized {setup} {xs} {ys} first later = record { each = All-append (IsSized setup) xs ys first.each later.each }

module _ (setup : Setup) (bytes : Bytes) (card : FittedCard) (fit : IsCard card)
    (fitted : card_at setup card.dev ≡ Some card) where
  -- a window of base number k of a card
  sized : (k value : ℕ) (base : Base) → k < 6 → slice_get card.bases k ≡ Some base →
      AreSized setup (record { dev = card.dev; base = k; inside = value; bits = bits_of_base (Some base) } ∷ [])
  sized k value base below at = grind (arith, nat_tests, one_sized, least_bits, is_base)

  sized_base : (windows : Windows) (k : ℕ) (base : Base) → k < 6 → slice_get card.bases k ≡ Some base →
      AreSized setup (window_in windows bytes card.dev k base)
  sized_base windows k base below at =
      let one = sized k (base_value bytes card.dev k) base below at in
      let none = no_windows {setup = setup} in
      grind (arith, one, none)

  sized_bases : (windows : Windows) (k : ℕ) (bases : List Base) → k + length bases ≤ 6 →
      ((i : ℕ) → slice_get card.bases (k + i) ≡ slice_get bases i) →
      AreSized setup (base_windows windows bytes card.dev k bases)
  sized_bases windows k [] few same = no_windows
  sized_bases windows k (base ∷ later) few same =
      both_sized (sized_base windows k base (omega arith) (ap (slice_get card.bases) (omega arith) ∙ same 0))
      (sized_bases windows (k + 1) later (omega arith) (λ i. ap (slice_get card.bases) (omega arith) ∙ same (suc i)))

  sized_vga : (windows : Windows) → AreSized setup (vga_windows windows card)
  sized_vga windows = grind (arith, nat_tests, one_sized, no_windows)

  sized_rom : (windows : Windows) → AreSized setup (rom_windows windows bytes card.dev card.rom)
  sized_rom windows = grind (arith, nat_tests, no_windows, one_sized)

  sized_card : (windows : Windows) → AreSized setup (windows_in windows bytes card)
  sized_card windows =
      let few = fit.count in
      both_sized
      (both_sized (sized_bases windows 0 card.bases (omega arith) (λ i. ap (slice_get card.bases) (omega arith)))
      (sized_rom windows)) (sized_vga windows)

-- a card that can be fitted, and is found by its number
abbrev pub IsFound : Setup → FittedCard → Type 0
IsFound setup card = IsCard card × (card_at setup card.dev ≡ Some card)

module _ (setup : Setup) (bytes : Bytes) where
  sized_cards : (windows : Windows) (cards : List FittedCard) → All (IsFound setup) cards →
      AreSized setup (flat_map (windows_in windows bytes) cards)
  sized_cards windows [] are = no_windows
  sized_cards windows (card ∷ later) are =
      let first = All-head (IsFound setup) card later are in
      both_sized (sized_card setup bytes card first.0 first.1 windows)
      (sized_cards windows later (All-tail (IsFound setup) card later are))

  -- the window that claims an address is that of a base
  pub claim_sized : (addr : ℕ) (window : Window) → All (IsFound setup) setup.cards →
      memory_claim setup bytes addr ≡ Some window → IsSized setup window
  unfolding memory_claim
  claim_sized addr window are found =
      All-find (IsSized setup) _ _ window (sized_cards Memory setup.cards are).each found

module _ (setup : Setup) (bytes : Bytes) (cards : List CardBytes) where
  all_found : AreCards cards → AreDecoded setup bytes cards → All (IsFound setup) (cards_of cards)
  all_found fit are =
      All-map (IsFound setup) (λ card. card.card) cards (λ k d within. (fit k d within, (are.1 k d within).fitted))

  pub memory_claim_sized : (addr : ℕ) (window : Window) → AreCards cards → AreDecoded setup bytes cards →
      memory_claim setup bytes addr ≡ Some window → IsSized setup window
  memory_claim_sized addr window fit are =
      claim_sized setup bytes addr window (subst (All (IsFound setup)) (sym are.0) (all_found fit are))

  -- and so is the window that claims a port
  pub io_claim_sized : (port : ℕ) (window : Window) → AreCards cards → AreDecoded setup bytes cards →
      io_claim setup bytes port ≡ Some window → IsSized setup window
  unfolding io_claim
  io_claim_sized port window fit are found =
      All-find (IsSized setup) _ _ window
      (rw (windows_are setup bytes cards port fit are Ports Open (io_windows bytes) (io_windows_are bytes)) at
      (sized_cards setup bytes Ports (cards_of cards) (all_found fit are)).each) found

-- ---- an aligned access in a window

pub quarter : (bits : ℕ) → 2 ≤ bits → 2 ^ bits ≡ 2 ^ (bits - 2) * 4
quarter bits above = ap (λ n. 2 ^ n) (omega arith) ∙ pow-add 2 (bits - 2) 2

-- an access that a window claims lies in the contents of its base
pub lies_in_window : (setup : Setup) (contents : List (List ℕ)) (window : Window) (place : ℕ) (width : Width) →
    IsSized setup window → HaveSizes setup contents → place % bytes_of width ≡ 0 →
    LiesIn contents window.dev window.base (place % 2 ^ window.bits) width
lies_in_window setup contents window place width sized sizes aligned = grind
    (arith, nat_tests, sized, quarter, nil_from_length, mod-lt, pow_pos, mod-pow-add)
