-- Which words of the machine the crate's enums stand for.
use Rattle.std.specs.Prelude.{List, [], ◌∷◌, ℕ}
use Rattle.device_spec.specs.Pit.{Mode, TerminalCount, OneShot, RateGenerator, SquareWave, SoftwareStrobe}
use Rattle.device_spec.specs.Pit.{HardwareStrobe, Access, LowByte, HighByte, LowThenHigh, Notation, Binary, Decimal}
use Rattle.pit_8254.specs.declared.word.CountingMode.{CountingMode}
use Rattle.pit_8254.specs.declared.word.CountingMode.TheVariants as modes
use Rattle.pit_8254.specs.declared.word.ByteAccess.{ByteAccess}
use Rattle.pit_8254.specs.declared.word.ByteAccess.TheVariants as accesses
use Rattle.pit_8254.specs.declared.word.CountNotation.{CountNotation}
use Rattle.pit_8254.specs.declared.word.CountNotation.TheVariants as notations
use Rattle.pit_8254.specs.declared.latch.CountLatch.{CountLatch}
use Rattle.pit_8254.specs.declared.latch.CountLatch.TheVariants as latches

abbrev pub mode_view : CountingMode → Mode
mode_view modes.TerminalCount = TerminalCount
mode_view modes.OneShot = OneShot
mode_view modes.RateGenerator = RateGenerator
mode_view modes.SquareWave = SquareWave
mode_view modes.SoftwareStrobe = SoftwareStrobe
mode_view modes.HardwareStrobe = HardwareStrobe

abbrev pub access_view : ByteAccess → Access
access_view accesses.LowByte = LowByte
access_view accesses.HighByte = HighByte
access_view accesses.LowThenHigh = LowThenHigh

abbrev pub notation_view : CountNotation → Notation
notation_view notations.Binary = Binary
notation_view notations.Decimal = Decimal

-- the bytes that a latch still has to give
abbrev pub latch_view : CountLatch → List ℕ
latch_view latches.Empty = []
latch_view (latches.OneByte byte) = byte ∷ []
latch_view (latches.TwoBytes low high) = low ∷ high ∷ []
