-- The state after bytes were written to a card from outside.
use Rattle.std.proofs.Common.{◌≡◌, ◌≢◌, ℕ, zero, suc, ◌+◌, ◌<◌, ◌≤◌, false, ◌&&◌, List, [], ◌∷◌, ◌++◌, length, take}
use Rattle.std.proofs.Common.{drop, Option, Some, None, refl, ap, ◌∙◌, arith, ◌==◌, if◌then◌else◌, slice_index}
use Rattle.std.proofs.Common.{unwrap_or}
use Rattle.std.proofs.lemmas.Grind.{elements}
use Rattle.std.proofs.lemmas.Option.{slice_get_past}
use Rattle.board_prelude.proofs.{get_or-take, get_or-drop, nat_tests, Write, One, Card, Event, Memory, Bus, Entry}
use Rattle.board_prelude.proofs.{Setup, IsSetup, Cell, DramCell, CardCell, byte, byte_put, card_byte, Denial}
use Rattle.board_base.specs.declared.access.Access.{Access}
use Rattle.pci_bars.specs.Contents.{HaveSizes, IsBaseNumber, held, IsContentsOf}
use Rattle.pci_bars.proofs.ContentsLemmas.{card_within, stored_byte}
use Rattle.board_chipset.specs.declared.state.State.{State}
use Rattle.board_chipset.specs.Kept.{IsSound, IsStateOf}
use Rattle.board_chipset.specs.CardLoads.{card_size, WritesByte, WriteCardInTurn, WriteCard}
use Rattle.board_chipset.proofs.OutsideSteps.{found_in}
use Rattle.board_chipset.proofs.LoadSteps.{IsPut, all_put, InTurn, state_in_turn}

-- ---- which bases have bytes

-- a base with bytes has a number, and is no expansion ROM
pub numbered : (setup : Setup) (dev base : ℕ) → IsSetup setup → 0 < card_size setup dev base →
    IsBaseNumber dev base × (base ≢ 6)
numbered setup dev base fits some = grind (arith, nat_tests, slice_get_past, found_in setup.cards dev fits.cards.each)

pub none_without_number : (setup : Setup) (dev base : ℕ) → IsSetup setup → ¬ IsBaseNumber dev base →
    card_size setup dev base ≡ 0
none_without_number setup dev base fits not =
    let told = numbered setup dev base fits in grind (arith, nat_tests)

-- where some bytes lie in a base, they lie in what is kept of it
pub fitting : {setup : Setup} {state : State} → IsSound setup state → (dev base off count : ℕ) →
    (count == 0) ≡ false → off + count ≤ card_size setup dev base →
    IsBaseNumber dev base × (base ≢ 6) × (off + count ≤ length (held state.stores.contents dev base))
fitting {setup} sound dev base off count some within =
    grind (arith, nat_tests, numbered setup dev base sound.fits, sound.contents dev base)

-- ---- the entries that write to a card

abbrev in_card : (dev base : ℕ) → Cell → Option ℕ
in_card dev base (DramCell at) = None
in_card dev base (CardCell d b at) = if dev == d && base == b then Some at else None

write_put : (dev base off byte : ℕ) (denial : Option Denial) (event : Event) → WritesByte byte event →
    IsPut (byte_put (Card dev base off) 0 One byte) event (Bus None (Card dev base off) denial)
write_put dev base off byte denial event is = grind (arith, nat_tests)

module _ (dev base off : ℕ) (bytes : List ℕ) where
  in_turn : base ≢ 6 → ((k : ℕ) → slice_index bytes k ≤ 0xFF) → (entries : List Entry) →
      WriteCardInTurn dev base off bytes entries → InTurn (in_card dev base) off bytes entries
  unfolding WriteCardInTurn
  in_turn kept small [] each = tt
  in_turn kept small (entry ∷ earlier) each =
      let n = length earlier in
      let is = rw (← each.0.reply) at (write_put dev base (off + n) _ each.0.denial _ each.0.event) in (
        record {
          writes = is.writes;
          passes = is.passes;
          puts = λ cell. is.puts cell ∙ (grind (arith, nat_tests, small n));
        },
        in_turn kept small earlier each.1,
      )

  -- there are such entries
  some_first : (n : ℕ) → (entries : List Entry) × (length entries ≡ n) × WriteCardInTurn dev base off bytes entries
  unfolding WriteCardInTurn
  some_first zero = ([], refl, tt)
  some_first (suc n) =
      let rest = some_first n in
      let k : ℕ = length rest.0 in
      let access : Access =
      record { kind = Write; addr = 0; width = One; smm = false; value = slice_index bytes k } in (
        record { actor = 0; seq = 0; event = Memory access; reply = Bus None (Card dev base (off + k)) None }
            ∷ rest.0,
        ap suc rest.1,
        (record { denial = None; event = (refl, refl, refl); reply = refl }, rest.2),
      )

  pub some_card_entries : (entries : List Entry) × WriteCard dev base off bytes entries
  some_card_entries = let some = some_first (length bytes) in (some.0, record { all = some.1; each = some.2 })

-- ---- the contents after bytes were copied into a base

-- bytes of a list over those of another from a place on
abbrev over : (old bytes : List ℕ) (off : ℕ) → List ℕ
over old bytes off = take off old ++ (bytes ++ drop (off + length bytes) old)

-- what `write_bytes` leaves
pub record IsCopied (old : List (List ℕ)) (dev base off : ℕ) (bytes : List ℕ) (new : List (List ℕ)) : Type 0 where
  pub number : IsBaseNumber dev base
  pub kept : base ≢ 6
  pub fits : off + length bytes ≤ length (held old dev base)
  pub here : held new dev base ≡ over (held old dev base) bytes off
  pub others : (d b : ℕ) → IsBaseNumber d b → (d ≡ dev → b ≡ base → ⊥) → held new d b ≡ held old d b

module _ {old new : List (List ℕ)} {dev base off : ℕ} {bytes : List ℕ} (is : IsCopied old dev base off bytes new) where
  sizes_stay : (d b : ℕ) → IsBaseNumber d b → length (held new d b) ≡ length (held old d b)
  sizes_stay d b number = grind (arith, nat_tests, elements, is.others d b number)

  copied_byte : (d b at : ℕ) → IsBaseNumber d b →
      slice_index (held new d b) at ≡ unwrap_or (all_put (in_card dev base (CardCell d b at)) off bytes (length bytes))
      (slice_index (held old d b) at)
  copied_byte d b at number = grind (arith, nat_tests, elements, is.others d b number)

-- ---- the state after all of them

module _ {setup : Setup} {old : State} {contents : List (List ℕ)} {dev base off : ℕ} {bytes : List ℕ}
    (is : IsCopied old.stores.contents dev base off bytes contents)
    (small : (k : ℕ) → slice_index bytes k ≤ 0xFF) where
  pub card_left : (history entries : List Entry) → IsStateOf setup history old →
      WriteCard dev base off bytes entries →
      IsStateOf setup (entries ++ history) (record old { stores = record old.stores { contents = contents } })
  card_left history entries kept all =
      state_in_turn _ _ _ kept _ all.all (in_turn _ _ _ _ is.kept small _ all.each)
      (record {
        size = refl;
        dram = λ at within. refl;
        sizes = sizes_stay is;
        contents = λ d b at number other within. copied_byte is d b at number;
      })

  pub card_kept : (history : List Entry) → IsStateOf setup history old →
      (later : List Entry) × IsStateOf setup later (record old { stores = record old.stores { contents = contents } })
  card_kept history kept =
      let some = some_card_entries dev base off bytes in
      (some.0 ++ history, card_left history some.0 kept some.1)

  -- and without a history
  pub sound_copied : IsSound setup old →
      IsSound setup (record old { stores = record old.stores { contents = contents } })
  sound_copied sound =
      let sizes : HaveSizes setup contents = λ d b number. sizes_stay is d b number ∙ sound.contents d b number in
      assumption

-- ---- bytes that are copied out

pub copied_out : {setup : Setup} {history : List Entry} {contents : List (List ℕ)} (dev base off count k : ℕ) →
    IsSetup setup → IsContentsOf setup history contents → off + count ≤ card_size setup dev base → k < count →
    slice_index (take count (drop off (held contents dev base))) k ≡ card_byte setup history dev base (off + k)
copied_out dev base off count k fits has within below =
    grind (arith, nat_tests, numbered, get_or-take, get_or-drop, stored_byte, card_within)
