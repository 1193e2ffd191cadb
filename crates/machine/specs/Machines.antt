-- What a monitor holds.
use Rattle.std.specs.Prelude.{ℕ, List, []}
use Rattle.board_chipset.specs.Chipset.{Running}
use Rattle.uart_16550.specs.Serial.{Serial}
use Rattle.machine.specs.declared.identity.FittedIdentity.{FittedIdentity}

-- what an image has: a chipset with a serial port, and what its cards say that they are
pub record Saved : Type 0 where
  pub serial : Serial Running
  pub identities : List FittedIdentity

-- with the bytes that the cards' expansion ROMs were given
pub record MachineState : Type 0 where
  pub saved : Saved
  pub roms : List (List ℕ)

-- of no ROM any
abbrev pub without_roms : Saved → MachineState
without_roms saved = record { saved = saved; roms = [] }
