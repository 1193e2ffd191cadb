-- Stores of one byte to the registers of the host bridge.
use Rattle.std.proofs.Common.{◌≡◌, ◌≢◌, ℕ, ◌+◌, ◌<◌, ◌⊎◌, List, [], length, set, None, refl, arith, get_or-set_other}
use Rattle.std.proofs.Common.{get_or-set_same}
use Rattle.board_prelude.proofs.{ne_eqb, One, Store, Setup, merged, reset_byte, writable_bits, changed_byte, Bytes}
use Rattle.board_prelude.proofs.{bridge, fdhc, merged-all, merged-none, changed_byte-one_same, changed_byte-one_other}
use Rattle.host_bridge.specs.Pmc.{PmcBytes, IsFixedOffset, IsRowsOf, IsPmcOf}
use Rattle.host_bridge.proofs.TableLemmas.{header_byte, row_bytes, rows_are, writable_bits-row, reset_byte-header}
use Rattle.host_bridge.proofs.TableLemmas.{reset_byte-blank, writable_bits-fixed}
use Rattle.std.proofs.lemmas.Bool.Decides.{nat_tests}

-- ---- after a reset

pub pmc_at_reset :
    (setup : Setup) (drb : List ℕ) (hole : ℕ) → drb ≡ row_bytes (reset_byte setup) → hole ≡ reset_byte setup fdhc →
    IsPmcOf (reset_byte setup) (record { drb = drb; fdhc = hole })
unfolding reset_byte
pmc_at_reset setup drb hole rows is = record {
  rows = rows_are (reset_byte setup) drb rows;
  hole = is;
  fixed = λ other off fixed. refl;
}

-- ---- a store to one register

-- a register after the store of a byte at an offset
abbrev pub after_store : Setup → Bytes → (off written : ℕ) → Bytes
after_store setup bytes off written reg = changed_byte setup (Store (bridge off) One written) reg (bytes reg)

module _ (setup : Setup) (bytes : Bytes) (off written : ℕ) where
  pub elsewhere : (at : ℕ) → at ≢ off → after_store setup bytes off written (bridge at) ≡ bytes (bridge at)
  elsewhere at apart = changed_byte-one_other setup (bridge at) off (bytes (bridge at)) written apart

  pub there : (mask : ℕ) → written < 256 → off ≢ 0x72 → writable_bits setup (bridge off) ≡ mask →
      after_store setup bytes off written (bridge off) ≡ merged mask (bytes (bridge off)) written
  there mask below apart is_mask =
      rw (← is_mask) (changed_byte-one_same setup _ (bytes (bridge off)) _ below (ne_eqb off 0x72 apart))

-- ---- the fixed registers stay

pub reset_byte-small : (setup : Setup) (off : ℕ) → IsFixedOffset off → reset_byte setup (bridge off) < 256
reset_byte-small setup off fixed = grind (arith, nat_tests, reset_byte-header, header_byte, reset_byte-blank)

abbrev IsFixedIn : Bytes → Type 0
IsFixedIn bytes = (setup : Setup) (off : ℕ) → IsFixedOffset off → bytes (bridge off) ≡ reset_byte setup (bridge off)

pub fixed_stay : (setup : Setup) (bytes : Bytes) (off written : ℕ) → written < 256 → IsFixedIn bytes →
    IsFixedIn (after_store setup bytes off written)
fixed_stay setup bytes off written below fixed other at is_fixed =
    grind (arith, nat_tests, there, writable_bits-fixed, merged-none, reset_byte-small, elsewhere)

-- ---- the three kinds of registers

module _ (setup : Setup) (bytes : Bytes) (drb : List ℕ) where
  -- the boundaries after a byte is stored in one of their registers
  pub rows_after_store : (row written : ℕ) → length drb ≡ 8 → row < 8 → written < 256 → IsRowsOf bytes drb →
      IsRowsOf (after_store setup bytes (0x60 + row) written) (set drb row written)
  rows_after_store row written eight within below is_rows at at_within =
      grind (arith, nat_tests, get_or-set_same, there, writable_bits-row, merged-all, get_or-set_other, elsewhere)

  pub stored_row : (hole row off written : ℕ) → 0x60 + row ≡ off → length drb ≡ 8 → row < 8 → written < 256 →
      IsPmcOf bytes (record { drb = drb; fdhc = hole }) →
      IsPmcOf (after_store setup bytes off written) (record { drb = set drb row written; fdhc = hole })
  stored_row hole row off written is eight within below is_pmc =
      grind (arith, nat_tests, rows_after_store, elsewhere, fixed_stay)

  pub stored_hole : (old written : ℕ) → written < 256 → IsPmcOf bytes (record { drb = drb; fdhc = old }) →
      IsPmcOf (after_store setup bytes fdhc.off written)
      (record { drb = drb; fdhc = merged (writable_bits setup fdhc) old written })
  stored_hole old written below is_pmc = grind (arith, nat_tests, there, elsewhere, fixed_stay)

pub stored_nowhere : (setup : Setup) (bytes : Bytes) (pmc : PmcBytes) (off written : ℕ) → written < 256 →
    ((off < 0x60) ⊎ (0x68 < off)) → IsPmcOf bytes pmc → IsPmcOf (after_store setup bytes off written) pmc
stored_nowhere setup bytes pmc off written below outside is_pmc = grind (arith, nat_tests, elsewhere, fixed_stay)

-- ---- the fixed registers are those of any setup

abbrev pub bare : Setup
bare = record { mib = 0; cards = []; rom = []; disk = None }
