-- The registers of the IDE function in the table of registers: after a reset, and after a store of one byte.
use Rattle.std.proofs.Common.{◌≡◌, ◌≢◌, ℕ, ◌<◌, ◌∙◌, refl, sym, ap, arith, slice_index, ◌==◌, if◌then◌else◌}
use Rattle.board_prelude.proofs.{nat_tests, One, Reg, Store, Setup, merged, ide_function, reset_byte, writable_bits}
use Rattle.board_prelude.proofs.{changed_byte, Bytes, ide, ide_command, idetim, idetim_high, merged-all}
use Rattle.south_bridge.specs.Ide.{IdeBytes, IsIdeFixed, IsIdeOf}
use Rattle.south_bridge.proofs.FixedLemmas.{IsFixedAt, ide_header, ide_fixed, kept_byte, stored_byte, bare}

fixed_at : (setup : Setup) (off : ℕ) → IsIdeFixed off → IsFixedAt setup (ide off) (slice_index ide_header off)
fixed_at setup off is_fixed =
    let low : off ≢ 0x40 = is_fixed.timing_low in
    let high : off ≢ 0x41 = is_fixed.timing_high in
    ide_fixed setup off is_fixed.command (grind (arith, nat_tests))

pub ide_byte : (bytes : Bytes) (regs : IdeBytes) (off : ℕ) → IsIdeOf bytes regs → IsIdeFixed off →
    slice_index ide_header off ≡ bytes (ide off)
ide_byte bytes regs off is_ide is_fixed = (fixed_at bare off is_fixed).reset ∙ sym (is_ide.fixed bare off is_fixed)

pub ide_at_reset :
    (setup : Setup) → IsIdeOf (reset_byte setup) (record { command = 0; timing_low = 0; timing_high = 0 })
unfolding reset_byte ide_function
ide_at_reset setup = record {
  command = refl;
  timing_low = refl;
  timing_high = refl;
  fixed = λ other off is_fixed. sym (fixed_at setup off is_fixed).reset ∙ (fixed_at other off is_fixed).reset;
}

-- after a store of a byte anywhere
pub ide_stored_at : (setup : Setup) (bytes : Bytes) (old new : IdeBytes) (at : Reg) (written : ℕ) → IsIdeOf bytes old →
    new.command ≡ changed_byte setup (Store at One written) ide_command old.command →
    new.timing_low ≡ changed_byte setup (Store at One written) idetim old.timing_low →
    new.timing_high ≡ changed_byte setup (Store at One written) idetim_high old.timing_high →
    IsIdeOf (λ reg. changed_byte setup (Store at One written) reg (bytes reg)) new
ide_stored_at setup bytes old new at written is_ide command timing_low timing_high = record {
  command = command ∙ ap (λ (now : ℕ). changed_byte setup (Store at One written) ide_command now) is_ide.command;
  timing_low = timing_low ∙ ap (λ (now : ℕ). changed_byte setup (Store at One written) idetim now) is_ide.timing_low;
  timing_high =
      timing_high ∙ ap (λ (now : ℕ). changed_byte setup (Store at One written) idetim_high now) is_ide.timing_high;
  fixed = λ other off is_fixed.
      kept_byte _ at One written _ _ _ refl (fixed_at setup _ is_fixed)
      (is_ide.fixed setup off is_fixed ∙ sym (fixed_at setup _ is_fixed).reset)
      ∙ (fixed_at other _ is_fixed).reset;
}

-- in the function
pub ide_stored : (setup : Setup) (bytes : Bytes) (old new : IdeBytes) (off written : ℕ) → written < 256 →
    new.command ≡ (if off == 0x04 then merged 0x05 old.command written else old.command) →
    new.timing_low ≡ (if off == 0x40 then written else old.timing_low) →
    new.timing_high ≡ (if off == 0x41 then written else old.timing_high) → IsIdeOf bytes old →
    IsIdeOf (λ reg. changed_byte setup (Store (ide off) One written) reg (bytes reg)) new
unfolding writable_bits ide_function
ide_stored setup bytes old new off written below command timing_low timing_high is_ide =
    ide_stored_at setup bytes old new (ide off) written is_ide
    (stored_byte setup 1 0x04 off written _ _ _ below refl command)
    (stored_byte setup 1 0x40 off written _ _ _ below (merged-all old.timing_low written below) timing_low)
    (stored_byte setup 1 0x41 off written _ _ _ below (merged-all old.timing_high written below) timing_high)
