-- The route control registers in the table of registers: after a reset, and after a store of one byte.
use Rattle.std.proofs.Common.{ℕ, ◌<◌, refl, arith, replicate}
use Rattle.board_prelude.proofs.{nat_tests, Routes, routes_after_write, route_reset, One, Store, Setup, isa, isa_bridge}
use Rattle.board_prelude.proofs.{reset_byte, writable_bits, changed_byte, Bytes}
use Rattle.south_bridge.specs.Routes.{AreRoutesIn}

pub routes_at_reset : (setup : Setup) → AreRoutesIn (reset_byte setup) (replicate 4 route_reset)
unfolding reset_byte isa_bridge
routes_at_reset setup = refl

pub stored_byte : (setup : Setup) (bytes : Bytes) (routes : Routes) (off byte : ℕ) → byte < 256 →
    AreRoutesIn bytes routes → AreRoutesIn (λ reg. changed_byte setup (Store (isa off) One byte) reg (bytes reg))
    (routes_after_write routes off byte)
unfolding writable_bits isa_bridge
stored_byte setup bytes routes off byte small are = grind (arith, nat_tests)
