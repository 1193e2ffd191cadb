-- A chipset with a serial port, as a history left it.
use Rattle.std.specs.Prelude.{List}
use Rattle.board_prelude.specs.{Entry, Statement}
use Rattle.board_chipset.specs.Chipset.{Running, IsLeftBy}
use Rattle.board_chipset.specs.Versions.{IsAnswerModulo}
use Rattle.uart_16550.specs.Serial.{Serial, IsAfter}

-- a history left it that goes on from this one with these statements, each with an answer
abbrev pub IsChipsetAfter : Serial Running → (before : List Entry) → List Statement → Type 0
IsChipsetAfter serial before steps = IsAfter IsAnswerModulo (λ chipset. chipset.setup) IsLeftBy serial before steps
