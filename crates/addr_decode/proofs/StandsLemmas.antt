-- The registers of the address map among those of a board: after a reset, and where a byte is stored.
use Rattle.std.proofs.Common.{◌≡◌, ℕ, ◌+◌, ◌<◌, ◌≤◌, ◌⊎◌, inl, inr, None, List, length, set, sym, ◌∙◌, arith, add-one}
use Rattle.std.proofs.Common.{slice_index}
use Rattle.board_prelude.proofs.{get_or-set_other, get_or-set_same, cases_eq, nat_tests, Width, bytes_of, One, Reg}
use Rattle.board_prelude.proofs.{Store, FittedCard, Setup, byte, reset_byte, changed_byte, Bytes, bridge, drb}
use Rattle.board_prelude.proofs.{card_register, reg_after, after_stores, byte_by_byte}
use Rattle.host_bridge.proofs.RowNames.{row_bytes, rows_are, rows_after_store}
use Rattle.host_bridge.specs.Pam.{IsPamOffset, IsPamOf}
use Rattle.host_bridge.proofs.PamLemmas.{pam_bytes, pam_are}
use Rattle.pci_bars.specs.Cards.{CardBytes, AreCards, AreCardsOf, AreDecoded, cards_of, AreFitted, AreReset}
use Rattle.addr_decode.specs.MapRegister.{map_register}
use Rattle.addr_decode.specs.MapRegs.{MapBytes, StandsFor, stored}
use Rattle.addr_decode.specs.Singles.{AreSinglesOf, single, single_count, single_number}
use Rattle.addr_decode.proofs.StoreLemmas.{Differs, differs_back, stored-elsewhere}
use Rattle.addr_decode.proofs.CardLemmas.{cards_agree, cards_stay, cards_decoded, of_decoded, of_registers, reset_cards}
use Rattle.addr_decode.proofs.SingleLemmas.{no_single, singles_apart, single_is}

-- the registers of the bridges that a board's registers give
pub record AreBridgesOf (bytes : Bytes) (regs : MapBytes) : Type 0 where
  pub rows : regs.drb ≡ row_bytes bytes
  pub windows : regs.pam ≡ pam_bytes bytes
  pub singles : AreSinglesOf bytes regs.singles

pub stands_at_reset : (setup : Setup) (regs : MapBytes) → AreBridgesOf (reset_byte setup) regs → AreFitted regs.cards →
    AreReset regs.cards → setup.cards ≡ cards_of regs.cards → StandsFor setup (reset_byte setup) regs
stands_at_reset setup regs are fitted reset same = record {
  rows = rows_are (reset_byte setup) regs.drb are.rows;
  windows = pam_are (reset_byte setup) regs.pam are.windows;
  singles = are.singles;
  cards = cards_decoded setup (reset_byte setup) regs.cards (reset_cards setup regs.cards fitted reset same);
}

-- ---- a byte is stored in one register: each kind of the others stays

-- a register is none of those of the bridges
pub record IsApart (at : Reg) : Type 0 where
  pub rows : (row : ℕ) → row < 8 → Differs at (drb row)
  pub windows : (off : ℕ) → IsPamOffset off → Differs at (bridge off)
  pub singles : (k : ℕ) → k < single_count → Differs at (single k)

module _ (setup : Setup) (bytes : Bytes) (regs : MapBytes) (stands : StandsFor setup bytes regs) (written : ℕ) where
  stays : (at reg : Reg) (held : ℕ) → held ≡ bytes reg → Differs at reg → held ≡ stored setup bytes at written reg
  stays at reg held is apart = is ∙ sym (stored-elsewhere setup bytes at written reg apart)

  -- a register that is none of the bridges'
  pub stored_apart : (at : Reg) (cards : List CardBytes) → IsApart at →
      AreDecoded setup (stored setup bytes at written) cards →
      StandsFor setup (stored setup bytes at written) (record regs { cards = cards })
  stored_apart at cards apart are = record {
    rows = λ row below. stays at (drb row) _ (stands.rows row below) (apart.rows row below);
    windows = λ off inside. stays at (bridge off) _ (stands.windows off inside) (apart.windows off inside);
    singles = λ k below. stays at (single k) _ (stands.singles k below) (apart.singles k below);
    cards = are;
  }

  -- a window of PAM, a boundary of a row, and a register of one byte
  module _ (fitted : AreFitted regs.cards) (below : written < 256) where
    decoded : (at : Reg) → at.dev < 2 → AreDecoded setup (stored setup bytes at written) regs.cards
    decoded at low = cards_stay (of_decoded setup) bytes regs.cards stands.cards at written fitted.each below (inl low)

    pub window_stored : (pam : List ℕ) (off : ℕ) → IsPamOffset off →
        IsPamOf (stored setup bytes (bridge off) written) pam →
        StandsFor setup (stored setup bytes (bridge off) written) (record regs { pam = pam })
    window_stored pam off within is = grind (arith, nat_tests, stays, single_is, decoded)

    pub row_stored : (row : ℕ) → length regs.drb ≡ 8 → row < 8 →
        StandsFor setup (stored setup bytes (drb row) written) (record regs { drb = set regs.drb row written })
    row_stored row eight within = grind (arith, nat_tests, rows_after_store, stays, single_is, decoded)

    pub single_stored : (number after : ℕ) → length regs.singles ≡ single_count → number < single_count →
        after
        ≡ changed_byte setup (Store (single number) One written) (single number) (slice_index regs.singles number) →
        StandsFor setup (stored setup bytes (single number) written)
        (record regs { singles = set regs.singles number after })
    single_stored number after all within is =
        let place = single_is _ within in
        record {
          rows = λ row below.
              stays _ _ _ (stands.rows row below)
              (differs_back _ _ (place.apart (0x60 + row) (omega arith) (omega arith)));
          windows = λ off inside.
              stays _ _ _ (stands.windows off inside)
              (differs_back _ _ (place.apart off inside.0 (omega (arith, inside.1))));
          singles = λ k below.
              elim (cases_eq k number) [
                | inl same ↦
                    rw (same, get_or-set_same regs.singles number after 0 (omega arith), ← stands.singles number within)
                    is
                | inr apart ↦
                    get_or-set_other regs.singles number k after 0 apart
                    ∙ stays _ _ _ (stands.singles k below) (singles_apart _ k within below (λ e. apart (sym e)))
              ];
          cards = decoded (single number) place.low;
        }

-- ---- a register without a name is none of those that the address map depends on

-- a card has none of the bridges' registers
pub card_apart : (at : Reg) → 2 ≤ at.dev → IsApart at
card_apart at above = grind (arith, nat_tests, single_is)

-- none of the registers of the map has this offset in the host bridge
pub record IsBeside (off : ℕ) : Type 0 where
  pub windows : (off < 0x59) ⊎ (0x5F < off)
  pub rows : (off < 0x60) ⊎ (0x67 < off)
  pub singles : (k : ℕ) → k < single_count → Differs (bridge off) (single k)

pub nameless_in_bridge : (cards : List FittedCard) (at : Reg) → at.dev ≡ 0 → at.fun ≡ 0 → map_register cards at ≡ None →
    IsBeside at.off
unfolding map_register
nameless_in_bridge cards at first function none = grind (arith, nat_tests, no_single)

pub nameless_apart : (cards : List FittedCard) (at : Reg) → map_register cards at ≡ None → IsApart at
unfolding map_register
nameless_apart cards at none = record {
  rows = λ row below. grind (arith, nat_tests);
  windows = λ off inside. let from = inside.0 in let to = inside.1 in grind (arith, nat_tests);
  singles = λ k below.
      let place = single_is k below in
      let own = λ (is : single_number at ≡ None). no_single at is k below in
      grind (arith, nat_tests, place.low, place.function, own);
}

-- ---- the bytes of a store, one after the other

abbrev pub stored_so_far : Setup → Bytes → (at : Reg) → (value count : ℕ) → Bytes
stored_so_far setup bytes at value count = λ reg. after_stores setup at value count reg (bytes reg)

-- what holds of the registers holds before the first, and goes on by one byte
module _ (P : Bytes → Type 0) (setup : Setup) (bytes : Bytes) (at : Reg) (value : ℕ) where
  pub none_stored : P bytes → P (stored_so_far setup bytes at value 0)
  unfolding after_stores
  none_stored is = is

  pub one_more_stored : (count written : ℕ) → written ≡ byte value count →
      P (stored setup (stored_so_far setup bytes at value count) (reg_after at count) written) →
      P (stored_so_far setup bytes at value (count + 1))
  unfolding after_stores
  one_more_stored count written same is = rw (add-one count) (rw same at is)

-- all of them
module _ (setup : Setup) (bytes : Bytes) (at : Reg) (width : Width) (value count : ℕ) (all : count ≡ bytes_of width)
  where
    pub whole : (reg : Reg) →
        changed_byte setup (Store at width value) reg (bytes reg) ≡ stored_so_far setup bytes at value count reg
    whole reg = rw all (byte_by_byte setup at width value reg (bytes reg))

    pub all_stored : (regs : MapBytes) → AreFitted regs.cards →
        StandsFor setup (stored_so_far setup bytes at value count) regs →
        StandsFor setup (λ reg. changed_byte setup (Store at width value) reg (bytes reg)) regs
    all_stored regs fitted stands = record {
      rows = λ row below. stands.rows row below ∙ sym (whole (drb row));
      windows = λ off within. stands.windows off within ∙ sym (whole (bridge off));
      singles = λ k below. stands.singles k below ∙ sym (whole (single k));
      cards =
          cards_agree (of_decoded setup) _ _ stands.cards _ fitted.each (λ dev off _. whole (card_register dev off));
    }

    pub all_cards_stored : (cards : List CardBytes) → AreCards cards →
        AreCardsOf setup (stored_so_far setup bytes at value count) cards →
        AreCardsOf setup (λ reg. changed_byte setup (Store at width value) reg (bytes reg)) cards
    all_cards_stored cards each are =
        cards_agree (of_registers setup) _ cards are _ each (λ dev off _. whole (card_register dev off))
