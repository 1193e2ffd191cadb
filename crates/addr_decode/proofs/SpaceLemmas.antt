-- A write to a space, as the definitions of the registers say it.
use Rattle.std.proofs.Common.{◌≡◌, ℕ, ◌<◌, List, length, get_or, set, false, inl, inr, ◌∙◌, sym, ap, arith}
use Rattle.std.proofs.Common.{get_or-set_other}
use Rattle.board_prelude.proofs.{cases_eq, get_or-set_at, One, Reg, Store, Setup, merged, writable_bits, changed_byte}
use Rattle.board_prelude.proofs.{smram, is_same, changed_byte-one_same, changed_byte-one_other}

-- the bytes with a merged byte at a place are those after a store of one byte there
pub stored_byte :
    (setup : Setup) (reg : Reg) (bytes masks : List ℕ) (off place written byte : ℕ) → place ≡ off →
    off < length bytes →
    written < 256 → byte ≡ merged (get_or masks place 0) (get_or bytes place 0) written →
    get_or masks reg.off 0 ≡ writable_bits setup reg → is_same reg smram ≡ false →
    get_or (set bytes place byte) reg.off 0
    ≡ changed_byte setup (Store (record reg { off = off }) One written) reg (get_or bytes reg.off 0)
stored_byte setup reg bytes masks off place written byte at_off within below byte_is mask_is plain =
    elim (cases_eq reg.off off) [
      | inl same ↦
          get_or-set_at bytes place reg.off byte 0 (omega arith) (omega arith)
          ∙ byte_is
          ∙ ap (λ k. merged (get_or masks k 0) (get_or bytes k 0) written) (omega arith)
          ∙ ap (λ mask. merged mask (get_or bytes reg.off 0) written) mask_is
          ∙ sym (changed_byte-one_same setup reg (get_or bytes reg.off 0) written below plain)
          ∙ ap (λ k. changed_byte setup (Store (record reg { off = k }) One written) reg (get_or bytes reg.off 0)) same
      | inr apart ↦
          get_or-set_other bytes place reg.off byte 0 (λ e. apart (omega arith))
          ∙ sym (changed_byte-one_other setup reg off (get_or bytes reg.off 0) written apart)
    ]
