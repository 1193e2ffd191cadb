-- A register that nothing changes holds after every history what a reset leaves.
use Rattle.std.proofs.Common.{◌≡◌, ◌<◌, ℕ, lit<, List, [], ◌∷◌, false, Option, Some, None, refl, arith}
use Rattle.board_prelude.proofs.{nat_tests, ne_eqb, Reg, Entry, MapChange, Store, Reset, Setup, smram, is_same}
use Rattle.board_prelude.proofs.{reset_byte, byte_with, register_change, byte_of}
use Rattle.host_bridge.specs.Pmc.{IsFixedOffset}
use Rattle.host_bridge.proofs.RowNames.{writable_bits-fixed, reset_byte-small}
use Rattle.south_bridge.proofs.SelectLemmas.{IsFixedAt, kept_byte, fixed_at}
use Rattle.addr_decode.proofs.StandsLemmas.{IsBeside}
use Rattle.config_regs.specs.Config.{HasFixed}

-- a register that cannot be written has its byte of a reset at all times
abbrev IsFixed : Setup → Reg → Type 0
IsFixed setup reg = IsFixedAt setup reg (reset_byte setup reg)

stays : (setup : Setup) (change : Option MapChange) (reg : Reg) (old : ℕ) → is_same reg smram ≡ false →
    IsFixed setup reg → old ≡ reset_byte setup reg → byte_with setup change reg old ≡ reset_byte setup reg
stays setup None reg old plain fixed is = is
stays setup (Some Reset) reg old plain fixed is = refl
stays setup (Some (Store at width value)) reg old plain fixed is = kept_byte _ at width value _ _ _ plain fixed is

always : (setup : Setup) (history : List Entry) (reg : Reg) → is_same reg smram ≡ false → IsFixed setup reg →
    byte_of setup history reg ≡ reset_byte setup reg
unfolding byte_of
always setup [] reg plain fixed = refl
always setup (entry ∷ before) reg plain fixed =
    stays _ (register_change setup before entry.event) _ _ plain fixed (always setup before reg plain fixed)

pub has_fixed : (setup : Setup) (history : List Entry) → HasFixed setup (byte_of setup history)
has_fixed setup history = record {
  bridge_bytes = λ off fixed.
      always _ history _ (ne_eqb off 0x72 (omega arith)) (record {
        reset = refl;
        read_only = writable_bits-fixed setup _ fixed;
        fits = reset_byte-small setup _ fixed;
      });
  isa_bytes = λ off fixed.
      let it = fixed_at setup _ fixed in
      always _ history _ refl (record { reset = refl; read_only = it.read_only; fits = rw (← it.reset) it.fits });
}

pub fixed_beside : (off : ℕ) → off < 256 → IsBeside off → IsFixedOffset off
fixed_beside off small beside = grind (arith, nat_tests, beside.singles 0 (lit< tt), beside.singles 1 (lit< tt))
