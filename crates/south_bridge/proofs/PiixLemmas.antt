-- The registers of the ISA bridge in the table of registers: after a reset, and after a store of one byte.
use Rattle.std.proofs.Common.{◌≡◌, ◌≢◌, ℕ, ◌<◌, inl, inr, ◌∙◌, refl, sym, arith, slice_index, ◌==◌, if◌then◌else◌}
use Rattle.board_prelude.proofs.{nat_tests, One, Reg, Store, Setup, merged, reset_byte, writable_bits, changed_byte}
use Rattle.board_prelude.proofs.{Bytes, isa, ide, xbcs as select_register}
use Rattle.south_bridge.specs.SelectNames.{IdeBytes, IsIdeOf, PiixBytes, IsPiixRegister, IsIsaFixed, IsPiixOf}
use Rattle.south_bridge.proofs.FixedLemmas.{IsFixedAt, isa_header, isa_fixed, kept_byte, stored_byte, bare}
use Rattle.south_bridge.proofs.IdeLemmas.{ide_stored_at}

pub fixed_at : (setup : Setup) (off : ℕ) → IsIsaFixed off → IsFixedAt setup (isa off) (slice_index isa_header off)
fixed_at setup off is_fixed =
    isa_fixed setup off is_fixed.select
    (elim is_fixed.routing [ inl below ↦ grind (arith, nat_tests) | inr above ↦ grind (arith, nat_tests) ])

pub isa_byte : (bytes : Bytes) (piix : PiixBytes) (off byte : ℕ) → IsPiixOf bytes piix → IsIsaFixed off →
    ((setup : Setup) → byte ≡ reset_byte setup (isa off)) → byte ≡ bytes (isa off)
isa_byte bytes piix off byte is_piix is_fixed is_reset = is_reset bare ∙ sym (is_piix.fixed bare off is_fixed)

pub ide_function_alone : (fun off : ℕ) → IsPiixRegister fun off → fun ≢ 0 → fun ≡ 1
ide_function_alone fun off (inl isa) apart = absurd (apart isa.0)
ide_function_alone fun off (inr ide) apart = ide

-- ---- after a reset

pub registers_at_reset :
    (setup : Setup) (xbcs : ℕ) (regs : IdeBytes) → xbcs ≡ reset_byte setup select_register →
    IsIdeOf (reset_byte setup) regs →
    IsPiixOf (reset_byte setup) (record { xbcs = xbcs; ide = regs })
registers_at_reset setup xbcs regs is_xbcs is_ide = record {
  xbcs = is_xbcs;
  ide = is_ide;
  fixed = λ other off is_fixed. sym (fixed_at setup off is_fixed).reset ∙ (fixed_at other off is_fixed).reset;
}

-- ---- a store of one byte

module _ (setup : Setup) (bytes : Bytes) (old : PiixBytes) where
  fixed_stays : (at : Reg) (written : ℕ) → IsPiixOf bytes old → (other : Setup) (off : ℕ) → IsIsaFixed off →
      changed_byte setup (Store at One written) (isa off) (bytes (isa off)) ≡ reset_byte other (isa off)
  fixed_stays at written is_piix other off is_fixed =
      let fixed = fixed_at setup _ is_fixed in
      kept_byte _ at One written _ _ _ refl fixed (is_piix.fixed setup off is_fixed ∙ sym fixed.reset)
      ∙ (fixed_at other _ is_fixed).reset

  -- to a register of the ISA bridge
  pub isa_stored : (off new written : ℕ) → written < 256 →
      new ≡ (if off == 0x4E then merged (writable_bits setup select_register) old.xbcs written else old.xbcs) →
      IsPiixOf bytes old →
      IsPiixOf (λ reg. changed_byte setup (Store (isa off) One written) reg (bytes reg)) (record old { xbcs = new })
  isa_stored off new written below xbcs is_piix = record {
    xbcs = rw (← is_piix.xbcs) (stored_byte setup 0 0x4E off written _ _ _ below refl xbcs);
    ide = ide_stored_at setup bytes old.ide old.ide (isa off) written is_piix.ide refl refl refl;
    fixed = fixed_stays (isa off) written is_piix;
  }

  -- to a register of the IDE function
  pub ide_stored_in : (new : IdeBytes) (off written : ℕ) → IsPiixOf bytes old →
      IsIdeOf (λ reg. changed_byte setup (Store (ide off) One written) reg (bytes reg)) new →
      IsPiixOf (λ reg. changed_byte setup (Store (ide off) One written) reg (bytes reg)) (record old { ide = new })
  ide_stored_in new off written is_piix is_ide =
      record { xbcs = is_piix.xbcs; ide = is_ide; fixed = fixed_stays (ide off) written is_piix }
