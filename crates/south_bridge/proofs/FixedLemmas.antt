-- The registers of the 82371SB that cannot be written, in the table of registers.
use Rattle.std.proofs.Common.{◌≡◌, ◌≢◌, ℕ, ◌<◌, List, [], ◌∷◌, false, None, refl, arith, inl, inr, slice_index, ◌==◌}
use Rattle.std.proofs.Common.{◌∙◌, if◌then◌else◌, rules}
use Rattle.std.proofs.lemmas.Bool.{cases_lt, cases_eq, cases_Bool}
use Rattle.std.proofs.lemmas.Bool.Decides.{nat_tests}
use Rattle.std.proofs.lemmas.List.{get_or_past}
use Rattle.board_base.proofs.MergedLemmas.{merged-none}
use Rattle.std.proofs.lemmas.Grind.{common_steps}
use Rattle.board_prelude.proofs.{Width, One, Reg, Store, Setup, is_within, merged, isa_bridge, ide_function, reset_byte}
use Rattle.board_prelude.proofs.{writable_bits, isa, ide, smram, is_same, changed_byte, each_below, ne_eqb}
use Rattle.south_bridge.specs.Piix.{piix_register}

-- a register has this byte at all times
pub record IsFixedAt (setup : Setup) (reg : Reg) (byte : ℕ) : Type 0 where
  pub reset : byte ≡ reset_byte setup reg
  pub read_only : writable_bits setup reg ≡ 0
  pub fits : byte < 256

-- the headers of the ISA bridge and of the IDE function
abbrev pub isa_header : List ℕ
isa_header =
    0x86 ∷ 0x80 ∷ 0x00 ∷ 0x70 ∷ 0x07 ∷ 0x00 ∷ 0x80 ∷ 0x02 ∷ 0x00 ∷ 0x00 ∷ 0x01 ∷ 0x06 ∷ 0x00 ∷ 0x00 ∷ 0x80 ∷ 0x00 ∷ []

abbrev pub ide_header : List ℕ
ide_header =
    0x86 ∷ 0x80 ∷ 0x10 ∷ 0x70 ∷ 0x00 ∷ 0x00 ∷ 0x80 ∷ 0x02 ∷ 0x00 ∷ 0x80 ∷ 0x01 ∷ 0x01 ∷ 0x00 ∷ 0x00 ∷ 0x00 ∷ 0x00 ∷ []

-- all registers of the ISA bridge but XBCS and those that route interrupts
pub isa_fixed : (setup : Setup) (off : ℕ) → off ≢ 0x4E → is_within 0x60 0x63 off ≡ false → IsFixedAt setup (isa off)
    (slice_index isa_header off)
unfolding reset_byte writable_bits isa_bridge
isa_fixed setup off xbcs pirq =
    elim (cases_lt off 16) [
      | inl below ↦ record {
        reset = each_below (λ k. slice_index isa_header k ≡ reset_byte setup (isa k)) 16 off (search rules) below;
        read_only = each_below (λ k. writable_bits setup (isa k) ≡ 0) 16 off (search rules) below;
        fits = each_below (λ k. slice_index isa_header k < 256) 16 off (search rules) below;
      }
      | inr above ↦ rw (get_or_past {X = ℕ} isa_header off 0 above) (elim (cases_eq off 0x4F) [
        | inl high ↦ rw high (record { reset = refl; read_only = refl; fits = omega arith })
        | inr low ↦
            record { reset = grind (arith, nat_tests); read_only = grind (arith, nat_tests); fits = omega arith }
      ])
    ]

-- all registers of the IDE function but the low byte of the command and the two of IDETIM
pub ide_fixed : (setup : Setup) (off : ℕ) → off ≢ 0x04 → is_within 0x40 0x41 off ≡ false → IsFixedAt setup (ide off)
    (slice_index ide_header off)
unfolding reset_byte writable_bits ide_function
ide_fixed setup off command timing =
    elim (cases_lt off 16) [
      | inl below ↦ record {
        reset = each_below (λ k. slice_index ide_header k ≡ reset_byte setup (ide k)) 16 off (search rules) below;
        read_only =
            each_below (λ k. writable_bits setup (ide k) ≡ (if k == 0x04 then 0x05 else 0)) 16 off (search rules) below
            ∙ rw (ne_eqb off 0x04 command) refl;
        fits = each_below (λ k. slice_index ide_header k < 256) 16 off (search rules) below;
      }
      | inr above ↦
          rw (get_or_past {X = ℕ} ide_header off 0 above)
          (record { reset = grind (arith, nat_tests); read_only = grind (arith, nat_tests); fits = omega arith })
    ]

-- a board with nothing on it: the chip's registers are those of every board
pub bare : Setup
bare = record { mib = 1; cards = []; rom = []; disk = None }

-- a store leaves a register that cannot be written
pub kept_byte :
    (setup : Setup) (at : Reg) (width : Width) (written : ℕ) (reg : Reg) (old fixed : ℕ) → is_same reg smram ≡ false →
    IsFixedAt setup reg fixed → old ≡ fixed → changed_byte setup (Store at width written) reg old ≡ fixed
kept_byte setup at width written reg old fixed plain is_fixed is_old =
    grind (arith, nat_tests, common_steps, cases_Bool, merged-none)

-- and one that can takes a byte that is stored there
pub stored_byte : (setup : Setup) (fun own off written old new after : ℕ) → written < 256 →
    merged (writable_bits setup (piix_register fun own)) old written ≡ after →
    new ≡ (if off == own then after else old) →
    new ≡ changed_byte setup (Store (piix_register fun off) One written) (piix_register fun own) old
stored_byte setup fun own off written old new after below is_after is = grind (arith, nat_tests)
