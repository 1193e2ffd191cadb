-- The bytes of ROMs after some were written into one of them.
use Rattle.std.proofs.Common.{◌≡◌, ℕ, ◌+◌, ◌<◌, ◌≤◌, List, [], replicate, length, set, arith, slice_index}
use Rattle.std.proofs.lemmas.List.{get_or-set_same, get_or-set_other}
use Rattle.board_prelude.proofs.{nat_tests, get_or-replicate, get_or_past, length-replicate}
use Rattle.machine.specs.Roms.{byte_after, byte_in, given, put_byte, rom_byte}

pub none_given : (count dev : ℕ) → given (replicate count []) dev ≡ []
none_given count dev = grind (arith, get_or-replicate, get_or_past, length-replicate)

pub put_here : (roms : List (List ℕ)) (dev : ℕ) (new : List ℕ) → dev < length roms → (bytes : List ℕ) (off : ℕ) →
    off + length bytes ≤ length (given roms dev) → length new ≡ length (given roms dev) →
    ((k : ℕ) → slice_index new k ≡ byte_after off bytes k (slice_index (given roms dev) k)) →
    (d at : ℕ) → rom_byte (set roms dev new) d at ≡ put_byte dev off bytes d at (rom_byte roms d at)
put_here roms dev new there bytes off within size put d at = grind (arith, nat_tests, get_or-set_same, get_or-set_other)

pub none_in : (off old : ℕ) → byte_in [] off old ≡ old
none_in off old = grind (arith, nat_tests)
