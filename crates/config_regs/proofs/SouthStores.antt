-- What a store leaves of the registers of the 82371SB.
use Rattle.std.proofs.Common.{◌≡◌, ℕ, sym, ◌∙◌}
use Rattle.board_prelude.proofs.{Bytes}
use Rattle.south_bridge.specs.Piix.{piix_register}
use Rattle.config_regs.specs.declared.south.South.{South}
use Rattle.config_regs.specs.Config.{IsSouthOf}

-- registers that agree
abbrev pub SameSouth : (bytes bytes' : Bytes) → Type 0
SameSouth bytes bytes' = (fun off : ℕ) → bytes' (piix_register fun off) ≡ bytes (piix_register fun off)

pub south_agrees :
    (bytes bytes' : Bytes) (south : South) → SameSouth bytes bytes' → IsSouthOf bytes south → IsSouthOf bytes' south
south_agrees bytes bytes' south same is = record {
  routes = rw (same 0 0x60, same 0 0x61, same 0 0x62, same 0 0x63) is.routes;
  ide = record {
    command = is.ide.command ∙ sym (same 1 0x04);
    timing_low = is.ide.timing_low ∙ sym (same 1 0x40);
    timing_high = is.ide.timing_high ∙ sym (same 1 0x41);
    fixed = λ setup off fixed. same 1 off ∙ is.ide.fixed setup off fixed;
  };
}
