-- A store of one byte changes the register at its offset, and no other. A store of several is one of each byte.
use Rattle.std.proofs.Common.{◌≡◌, ◌≢◌, ℕ, zero, suc, ◌+◌, ◌-◌, ◌<◌, Bool, false, ◌&&◌, sym, arith, ◌==◌}
use Rattle.std.proofs.Common.{nat_le, nat_lt, if◌then◌else◌}
use Rattle.std.proofs.lemmas.Bool.Decides.{nat_tests}
use Rattle.board_base.specs.declared.access.Width.TheVariants.{One}
use Rattle.board_base.specs.declared.target.Reg.{Reg}
use Rattle.board_base.specs.Access.{bytes_of}
use Rattle.board_spec.specs.Setup.{Setup}
use Rattle.board_spec.specs.Bits.{byte}
use Rattle.board_base.specs.Bits.{merged}
use Rattle.board_spec.specs.RegisterNames.{smram, is_same}
use Rattle.board_spec.specs.RegisterTable.{writable_bits}
use Rattle.board_spec.specs.Registers.{byte_after, changed_byte}
use Rattle.board_spec.specs.WideStores.{after_stores, ByteByByte}
use Rattle.board_spec.specs.declared.map_change.MapChange.TheVariants.{Store}

pub changed_byte-one_same : (setup : Setup) (reg : Reg) (old written : ℕ) → written < 256 → is_same reg smram ≡ false →
    changed_byte setup (Store reg One written) reg old ≡ merged (writable_bits setup reg) old written
changed_byte-one_same setup reg old written below plain = grind (arith, nat_tests)

pub changed_byte-one_other : (setup : Setup) (reg : Reg) (off old written : ℕ) → reg.off ≢ off →
    changed_byte setup (Store (record reg { off = off }) One written) reg old ≡ old
changed_byte-one_other setup reg off old written apart = grind (arith, nat_tests)

-- ---- a store of several bytes

abbrev same_function : Reg → Reg → Bool
same_function at reg = at.dev == reg.dev && at.fun == reg.fun

-- a register where this many bytes are stored at once
abbrev at_once : Setup → (at : Reg) → (value count : ℕ) → Reg → ℕ → ℕ
at_once setup at value count reg old =
    if same_function at reg && nat_le at.off reg.off && nat_lt reg.off (at.off + count)
    then byte_after setup reg old (byte value (reg.off - at.off)) else old

byte_stores : (setup : Setup) (at : Reg) (value count : ℕ) (reg : Reg) (old : ℕ) →
    after_stores setup at value count reg old ≡ at_once setup at value count reg old
unfolding after_stores
byte_stores setup at value zero reg old = grind (arith, nat_tests)
byte_stores setup at value (suc k) reg old =
    let none : reg.off ≡ at.off + k → reg.off - (at.off + k) ≡ 0 = λ here. omega arith in
    let far : reg.off ≡ at.off + k → reg.off - at.off ≡ k = λ here. omega arith in
    let lowest : byte (byte value k) 0 ≡ byte value k = let small : byte value k < 256 = omega arith in omega arith in
    rw (byte_stores setup at value k reg old) (grind (arith, nat_tests))

pub byte_by_byte : ByteByByte
byte_by_byte setup at width value reg old = sym (byte_stores setup at value (bytes_of width) reg old)
