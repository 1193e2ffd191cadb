-- What a read of port 61h gives, bit by bit.
use Rattle.std.specs.Prelude.{ℕ, ◌≡◌, ◌%◌, ◌<◌, false}
use Rattle.board_prelude.specs.{PitState, out_of, is_bit, SystemPort, system_value}

-- bits 1 and 0 are as written, bit 4 is the one that flips, bit 5 is OUT of counter 2, and the others are 0
pub record SystemPortBits (port : SystemPort) (timer : PitState) (value : ℕ) : Type 0 where
  pub kept : value % 4 ≡ port.kept
  pub bit_2 : is_bit value 2 ≡ false
  pub bit_3 : is_bit value 3 ≡ false
  pub flips : is_bit value 4 ≡ port.flip
  pub out : is_bit value 5 ≡ out_of 2 timer
  pub most : value < 0x40

abbrev pub SystemPortByBits : Type 0
SystemPortByBits =
    (port : SystemPort) (timer : PitState) → port.kept < 4 → SystemPortBits port timer (system_value port timer)
