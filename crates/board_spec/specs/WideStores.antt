-- A store of several bytes, one byte after the other in rising offset.
use Rattle.std.specs.Prelude.{◌≡◌, ℕ, zero, suc}
use Rattle.board_base.specs.declared.access.Width.{Width}
use Rattle.board_base.specs.declared.access.Width.TheVariants.{One}
use Rattle.board_base.specs.declared.target.Reg.{Reg}
use Rattle.board_base.specs.Access.{bytes_of}
use Rattle.board_spec.specs.declared.map_change.MapChange.TheVariants.{Store}
use Rattle.board_spec.specs.Setup.{Setup}
use Rattle.board_spec.specs.Bits.{byte}
use Rattle.board_spec.specs.Registers.{changed_byte}
use Rattle.board_spec.specs.MapWrites.{reg_after}

-- a register after the first `count` bytes of a value were stored from `at` on, each by itself
unfoldable pub after_stores : Setup → (at : Reg) → (value count : ℕ) → Reg → ℕ → ℕ
after_stores setup at value zero reg old = old
after_stores setup at value (suc k) reg old =
    changed_byte setup (Store (reg_after at k) One (byte value k)) reg (after_stores setup at value k reg old)

-- a store is those of its bytes
abbrev pub ByteByByte : Type 0
ByteByByte =
    (setup : Setup) (at : Reg) (width : Width) (value : ℕ) (reg : Reg) (old : ℕ) →
    changed_byte setup (Store at width value) reg old ≡ after_stores setup at value (bytes_of width) reg old
