-- The DRAM after a history, and after one entry more.
use Rattle.std.proofs.Common.{◌≡◌, ℕ, ◌+◌, List, [], ◌∷◌, length, arith, ◌*◌, All}
use Rattle.board_prelude.proofs.{concat, length-replicate, get_or-replicate, nat_tests, Width, Dram, bytes_of, Entry}
use Rattle.board_prelude.proofs.{Setup, byte, wide, DramCell, stored_of, byte_put, entry_put, dram_byte}
use Rattle.std.proofs.Math.Seq.{of_parts}
use Rattle.dram_store.proofs.ConcatLemmas.{zero_banks}
use Rattle.dram_store.specs.Bank.{IsBank, IsZero, bank_size}
use Rattle.dram_store.specs.Dram.{dram_at, IsDramOf, IsWritten}

pub fresh : (setup : Setup) (banks : List (List ℕ)) → All IsBank banks → All IsZero banks → length banks ≡ setup.mib →
    IsDramOf setup [] (concat banks)
unfolding stored_of
fresh setup banks each zeros count =
    let is = zero_banks banks each zeros in
    grind (arith, nat_tests, of_parts, length-replicate {A = ℕ} (length banks * bank_size) 0, get_or-replicate)

-- ---- one entry more

pub stored : (setup : Setup) (history : List Entry) (entry : Entry) (old : List ℕ) (addr : ℕ) (width : Width)
    (value : ℕ) (new : List ℕ) → IsWritten old addr (bytes_of width) (byte value) new → length new ≡ length old →
    IsDramOf setup history old →
    ((at : ℕ) → entry_put entry.event entry.reply (DramCell at) ≡ byte_put (Dram 0) addr width value (DramCell at)) →
    IsDramOf setup (entry ∷ history) new
unfolding stored_of
stored setup history entry old addr width value new is_written same kept put = grind (arith, nat_tests)

-- ---- values that are read

-- the bytes of a DRAM are those of its history
pub read_stored :
    (setup : Setup) (history : List Entry) (dram : List ℕ) (addr : ℕ) (width : Width) → IsDramOf setup history dram →
    wide (λ at. dram_at dram at) addr width ≡ wide (λ at. dram_byte setup history at) addr width
read_stored setup history dram addr width is =
    let size = is.size in
    let each : (at : ℕ) → dram_at dram at ≡ dram_byte setup history at = λ at.
    let here = is.each at in
    grind (arith, nat_tests) in
    grind (arith, each addr, each (addr + 1), each (addr + 2), each (addr + 3))
