-- A byte that is stored in one register leaves all others, and a register takes it under its mask.
use Rattle.std.proofs.Common.{◌≡◌, ◌≢◌, ℕ, List, ◌<◌, ◌⊎◌, refl, sym, arith, slice_index}
use Rattle.board_prelude.proofs.{w32, to_le_bytes, cond-false, nat_tests, One, Reg, Setup, byte, covers, Bytes}
use Rattle.board_prelude.proofs.{card_register}
use Rattle.pci_bars.proofs.BaseLemmas.{long_byte}
use Rattle.addr_decode.specs.MapRegs.{stored}

abbrev pub Differs : Reg → Reg → Type 0
Differs at reg = (at.dev ≢ reg.dev) ⊎ (at.fun ≢ reg.fun) ⊎ (at.off ≢ reg.off)

pub stored-elsewhere : (setup : Setup) (bytes : Bytes) (at : Reg) (written : ℕ) (reg : Reg) → Differs at reg →
    stored setup bytes at written reg ≡ bytes reg
stored-elsewhere setup bytes at written reg apart = cond-false (covers at One reg) _ _ (grind (arith, nat_tests))

-- a register by its three numbers
pub same_register : (reg other : Reg) → reg.dev ≡ other.dev → reg.fun ≡ other.fun → reg.off ≡ other.off → reg ≡ other
same_register reg other devs funs offs = grind (arith, nat_tests)

-- a register of function 0 by its device
pub in_function_0 : (reg : Reg) (dev : ℕ) → reg.dev ≡ dev → reg.fun ≡ 0 → card_register dev reg.off ≡ reg
in_function_0 reg dev is_dev is_fun = same_register (card_register dev reg.off) reg (sym is_dev) (sym is_fun) refl

-- two registers are one, or differ
pub same_or_apart : (at reg : Reg) → (at ≡ reg) ⊎ Differs at reg
same_or_apart at reg = grind (arith, nat_tests)

pub differs_back : (at reg : Reg) → Differs at reg → Differs reg at
differs_back at reg apart = grind (arith, nat_tests)

-- ---- the bytes of a value

pub byte_in_list : (value k place : ℕ) (bytes : List ℕ) → place ≡ k → k < 4 → bytes ≡ to_le_bytes w32 value →
    slice_index bytes place ≡ byte value k
byte_in_list value k place bytes same below are = rw (are, same) (long_byte value k below)
