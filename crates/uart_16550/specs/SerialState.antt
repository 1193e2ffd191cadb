-- The state of a chipset with a serial port as bytes, over the setup of the chipset: the chipset's, and then the
-- port's.
use Rattle.std.specs.Prelude.{ℕ, ◌≡◌, ◌+◌, ◌⊎◌, ◌++◌, List, length, Result, Ok, Err, IfOk}
use Rattle.board_prelude.specs.{Setup}
use Rattle.byte_fields.specs.declared.fault.Fault.{Fault}
use Rattle.byte_fields.specs.declared.fault.Fault.TheVariants.{NoMemory}
use Rattle.byte_fields.specs.Fields.{Reading, gives, ◌>>=◌, Filled}
use Rattle.board_chipset.specs.Alone.{alone}
use Rattle.board_chipset.specs.Chipset.{Running}
use Rattle.board_chipset.specs.ChipsetState.{IsChipset, bare_chipset, chipset_bytes, chipset_fields}
use Rattle.uart_16550.specs.Serial.{Serial}
use Rattle.uart_16550.specs.State.{IsCom1, com1_bytes, com1_fields}

pub record IsSerial (serial : Serial Running) : Type 0 where
  pub chipset : IsChipset serial.board
  pub port : IsCom1 serial.com1

abbrev pub serial_bytes : Serial Running → List ℕ
serial_bytes serial = chipset_bytes serial.board ++ com1_bytes serial.com1

-- without the ranges of the map, which are not in the bytes
abbrev pub bare_serial : Serial Running → Serial Running
bare_serial serial = record { board = bare_chipset serial.board; com1 = serial.com1 }

unfoldable pub serial_fields : Setup → Reading (Serial Running)
serial_fields setup = do
  board ← chipset_fields setup
  com1 ← com1_fields
  gives (record { board = board; com1 = com1 })

-- What a call says that reads a chipset of this setup with its port from the front of bytes: `Loads`, where what is
-- read is compared without the ranges of the map
pub record LoadsSerial (setup : Setup) (before after : List ℕ) (result : Result (Serial Running) Fault) : Type 0 where
  pub loaded : IfOk result (λ serial.
      (serial.board.setup ≡ setup) × IsSerial serial × (before ≡ serial_bytes serial ++ after))
  pub exact : (serial : Serial Running) (rest : List ℕ) → serial.board.setup ≡ setup → IsSerial serial →
      before ≡ serial_bytes serial ++ rest → (result ≡ Err NoMemory) ⊎ ((result ≡ Ok serial) × (after ≡ rest))
  pub bad : Filled bare_serial result after (serial_fields setup before)

-- the field at this offset is the first that is not whole or out of range, or the first byte too many
pub record IsBadSerialAt (setup : Setup) (bytes : List ℕ) (at : ℕ) : Type 0 where
  pub left : ℕ
  pub place : at + left ≡ length bytes
  pub bad : alone (serial_fields setup) bytes ≡ Err left

-- over one setup one state has one spelling, and one spelling is of one state
abbrev pub OneSerial : Type 0
OneSerial =
    (saved loaded : Serial Running) → IsSerial saved → IsSerial loaded → saved.board.setup ≡ loaded.board.setup →
    serial_bytes saved ≡ serial_bytes loaded → saved ≡ loaded
