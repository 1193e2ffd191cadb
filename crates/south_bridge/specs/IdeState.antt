-- The state of the IDE function as bytes: the low byte of the command, and both of IDETIM.
use Rattle.std.specs.Prelude.{ℕ, ◌<◌, List, [], ◌∷◌}
use Rattle.std.specs.Int.{w8}
use Rattle.byte_fields.specs.Fields.{Reading, gives, ◌>>=◌, within}
use Rattle.south_bridge.specs.Ide.{IdeBytes}

pub record IsIde (ide : IdeBytes) : Type 0 where
  pub command : ide.command < 256
  pub timing_low : ide.timing_low < 256
  pub timing_high : ide.timing_high < 256

abbrev pub ide_bytes : IdeBytes → List ℕ
ide_bytes ide = ide.command ∷ ide.timing_low ∷ ide.timing_high ∷ []

unfoldable pub ide_fields : Reading IdeBytes
ide_fields = do
  command ← within w8 0 255
  timing_low ← within w8 0 255
  timing_high ← within w8 0 255
  gives (record { command = command; timing_low = timing_low; timing_high = timing_high })
