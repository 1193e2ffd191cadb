-- The card that answers at an address is the same before and after a change that moves no window round it.
use Rattle.board_prelude.proofs.{option_map_or, common_steps, AllByRecursion, nat_tests, recursion_from_All}
use Rattle.board_prelude.proofs.{find-append, Reg, Base, IoBase, FittedCard, Setup, IsCard, IsCardList, card_at, is_bit}
use Rattle.board_prelude.proofs.{Bytes, Window, base_value, is_covered, rom_window, is_rom_on, vga_window}
use Rattle.board_prelude.proofs.{memory_windows, memory_window, is_enabled_for, memory_claim, card_register}
use Rattle.std.proofs.Common.{◌≡◌, ℕ, zero, suc, ◌+◌, ◌*◌, ◌<◌, ◌≤◌, ◌⊎◌, inl, inr, Bool, List, [], ◌∷◌, ◌++◌, length}
use Rattle.std.proofs.Common.{map, get_or, Option, Some, None, refl, sym, ◌∙◌, ap, arith, ◌&&◌, All, find, flat_map}
use Rattle.std.proofs.Common.{slice_get, if◌then◌else◌, lit<, below_more}
use Rattle.std.proofs.lemmas.Option.{slice_get_within}
use Rattle.addr_decode.specs.declared.register.CardRegister.{CardRegister}
use Rattle.addr_decode.specs.MapRegister.{in_card, map_register}
use Rattle.addr_decode.proofs.CardLemmas.{find_at}
use Rattle.map_builder.specs.Changed.{decoded, base_windows, card_windows, windows_of}
use Rattle.map_builder.specs.Held.{held_by}
use Rattle.map_builder.specs.declared.range.Changed.{Changed}
use Rattle.map_builder.proofs.BoundsLemmas.{Outside, none_covered}
use Rattle.map_builder.proofs.WindowLemmas.{from_base, one_held}

-- a register keeps its byte, or an address lies outside the windows that it governs, by what the registers held before
-- and hold after
abbrev pub Kept : Setup → (bytes new : Bytes) → (addr : ℕ) → Reg → Type 0
Kept setup bytes new addr reg =
    (new reg ≡ bytes reg) ⊎ (Outside addr (windows_of setup bytes reg) × Outside addr (windows_of setup new reg))

-- of so many, each holds, or something else does
pub each_or : (P : ℕ → Type 0) (Q : Type 0) (count : ℕ) → ((k : ℕ) → k < count → P k ⊎ Q) →
    ((k : ℕ) → k < count → P k) ⊎ Q
each_or P Q zero each = inl (λ k below. absurd (omega arith))
each_or P Q (suc n) each = grind (arith, nat_tests, each_or P Q n, each n, below_more P n)

-- the expansion ROM where it is selected
abbrev rom_part : Bytes → FittedCard → List Window
rom_part bytes card = if is_rom_on bytes card.dev then rom_window bytes card else []

record IsFitted (setup : Setup) (card : FittedCard) : Type 0 where
  pub at : card_at setup card.dev ≡ Some card
  pub first : 2 ≤ card.dev
  pub few : length card.bases ≤ 6

fitted : (setup : Setup) → IsCardList setup.cards → All (IsFitted setup) setup.cards
fitted setup list k d within =
    let is : IsCard (get_or setup.cards k d) = list.each k d within in
    record { at = find_at setup.cards list.rises k d within; first = is.first; few = is.count }

module _ (setup : Setup) (bytes new : Bytes) (addr : ℕ)
    (kept : (dev off : ℕ) → 2 ≤ dev → Kept setup bytes new addr (card_register dev off)) where
  abbrev claims : Bytes → Window → Bool
  claims registers = λ window. is_enabled_for 1 registers window.dev && is_covered addr window

  -- the windows that a register of a fitted card governs, by its name
  governed : (registers : Bytes) (card : FittedCard) (off : ℕ) (name : Option CardRegister) → IsFitted setup card →
      in_card off card ≡ name → windows_of setup registers (card_register card.dev off)
      ≡ option_map_or (λ register. card_windows registers register card) name []
  unfolding map_register
  governed registers card off name is named = grind (arith, nat_tests, is.at, is.first)

  base_governed : (registers : Bytes) (card : FittedCard) (k j : ℕ) (base : Base) → IsFitted setup card → j < 4 →
      k < 6 → slice_get card.bases k ≡ Some base →
      windows_of setup registers (card_register card.dev (0x10 + 4 * k + j))
      ≡ held_by base (base_value registers card.dev k)
  base_governed registers card k j base is few below at =
      let held = one_held registers card.dev k k 0 card.bases in
      grind (arith, nat_tests, governed registers card (0x10 + 4 * k + j) _ is refl, held)

  -- four registers keep their bytes, or the address lies outside the windows that they govern
  four_kept : (dev first : ℕ) (windows : Bytes → List Changed) → 2 ≤ dev →
      ((registers : Bytes) (j : ℕ) → j < 4 →
      windows_of setup registers (card_register dev (first + j)) ≡ windows registers) →
      ((j : ℕ) → j < 4 → new (card_register dev (first + j)) ≡ bytes (card_register dev (first + j)))
      ⊎ (Outside addr (windows bytes) × Outside addr (windows new))
  four_kept dev first windows above govern =
      each_or (λ j. new (card_register dev (first + j)) ≡ bytes (card_register dev (first + j))) _ 4 (λ j few.
      elim (kept dev (first + j) above) [
        | inl same ↦ inl same
        | inr out ↦ inr (rw (govern bytes j few) at out.0, rw (govern new j few) at out.1)
      ])

  base_same : (card : FittedCard) (k : ℕ) (base : Base) → IsFitted setup card → k < 6 →
      slice_get card.bases k ≡ Some base → is_enabled_for 1 new card.dev ≡ is_enabled_for 1 bytes card.dev →
      find (claims new) (memory_window new card.dev k base) ≡ find (claims bytes) (memory_window bytes card.dev k base)
  base_same card k (IoBase bits) is below at enabled = refl
  base_same card k base is below at enabled =
      let first : 0x10 + 4 * k + 0 ≡ 0x10 + 4 * k = omega arith in
      elim (four_kept card.dev (0x10 + 4 * k) (λ it. held_by base (base_value it card.dev k)) is.first
      (λ it j few. base_governed it card k j base is few below at)) [
        | inr out ↦
            none_covered addr (memory_window new card.dev k base) (λ dev. is_enabled_for 1 new dev) out.1
            ∙ sym (none_covered addr (memory_window bytes card.dev k base) (λ dev. is_enabled_for 1 bytes dev) out.0)
        | inl same ↦
            let b0 = rw first at (same 0 (lit< tt)) in
            rw (b0, same 1 (lit< tt), same 2 (lit< tt), same 3 (lit< tt), enabled) refl
      ]

  bases_same : (dev first : ℕ) (bases : List Base) →
      ((j : ℕ) (base : Base) → slice_get bases j ≡ Some base →
      find (claims new) (memory_window new dev (first + j) base)
      ≡ find (claims bytes) (memory_window bytes dev (first + j) base)) →
      find (claims new) (from_base new dev first bases) ≡ find (claims bytes) (from_base bytes dev first bases)
  bases_same dev first [] each = refl
  bases_same dev first (base ∷ later) each =
      let here : first + 0 ≡ first = omega arith in
      let rest = bases_same dev (first + 1) later
      (λ j other at. let place : first + suc j ≡ first + 1 + j = omega arith in rw place at (each (suc j) other at)) in
      simp find-append (rw (rw here at (each 0 base refl), rest) refl)

  -- an address outside the expansion ROM is not answered by it
  rom_outside : (registers : Bytes) (card : FittedCard) → Outside addr (map decoded (rom_window registers card)) →
      find (claims registers) (rom_part registers card) ≡ None
  rom_outside registers card out =
      grind (arith, nat_tests, none_covered addr (rom_window registers card) (λ dev. is_enabled_for 1 registers dev))

  rom_same : (card : FittedCard) → IsFitted setup card →
      is_enabled_for 1 new card.dev ≡ is_enabled_for 1 bytes card.dev →
      find (claims new) (rom_part new card) ≡ find (claims bytes) (rom_part bytes card)
  rom_same card is enabled =
      elim (four_kept card.dev 0x30 (λ it. map decoded (rom_window it card)) is.first
      (λ it j few. grind (arith, nat_tests, governed it card (0x30 + j) _ is refl))) [
        | inr out ↦ rom_outside new card out.1 ∙ sym (rom_outside bytes card out.0)
        | inl same ↦
            grind (arith, nat_tests, same 0 (lit< tt), same 1 (lit< tt), same 2 (lit< tt), same 3 (lit< tt), enabled)
      ]

  vga_same : (card : FittedCard) → is_enabled_for 1 new card.dev ≡ is_enabled_for 1 bytes card.dev →
      find (claims new) (vga_window card) ≡ find (claims bytes) (vga_window card)
  vga_same card enabled = grind (arith, nat_tests)

  -- the windows of a card of which its command is none
  command_outside : (registers : Bytes) (card : FittedCard) → IsFitted setup card →
      Outside addr (windows_of setup registers (card_register card.dev 0x04)) →
      find (claims registers) (memory_windows registers card) ≡ None
  command_outside registers card is out =
      let all = base_windows registers card ++ rom_window registers card ++ vga_window card in
      let none = none_covered addr all (λ dev. is_enabled_for 1 registers dev) in
      grind (arith, nat_tests, find-append, none, governed registers card 0x04 _ is refl)

  card_same : (card : FittedCard) → IsFitted setup card →
      find (claims new) (memory_windows new card) ≡ find (claims bytes) (memory_windows bytes card)
  card_same card is =
      elim (kept card.dev 0x04 is.first) [
        | inr out ↦ command_outside new card is out.1 ∙ sym (command_outside bytes card is out.0)
        | inl same ↦
            let enabled = ap (λ (command : ℕ). is_bit command 1) same in
            let bases = bases_same card.dev 0 card.bases
            (λ j base at.
            let place : j ≡ 0 + j = omega arith in
            rw place at (base_same card j base is (omega (arith, slice_get_within card.bases j base at, is.few)) at
            enabled)) in
            simp find-append (rw (bases, rom_same card is enabled, vga_same card enabled) refl)
      ]

  cards_same : (cards : List FittedCard) → AllByRecursion (IsFitted setup) cards → find (claims new)
      (flat_map (memory_windows new) cards) ≡ find (claims bytes) (flat_map (memory_windows bytes) cards)
  cards_same [] each = refl
  cards_same (card ∷ later) each =
      grind (arith, nat_tests, common_steps, find-append, memory_windows, flat_map, card_same, cards_same later each.1)

  pub claim_same : IsCardList setup.cards → memory_claim setup new addr ≡ memory_claim setup bytes addr
  unfolding memory_claim
  claim_same list = cards_same setup.cards (recursion_from_All (IsFitted setup) setup.cards (fitted setup list))
