-- The statements of a script in the order of its file.
use Rattle.std.proofs.Common.{◌≡◌}
use Rattle.board_spec.specs.Setup.{Setup}
use Rattle.board_core.specs.Steps.{AreInRange}
use Rattle.script_spec.specs.ScriptText.{Script as Said}
use Rattle.script_spec.specs.ScriptRange.{IsInRangeScript, statements_in}

pub in_range : (setup : Setup) (script : Said) → IsInRangeScript script → setup.cards ≡ script.cards →
    AreInRange setup (statements_in script)
in_range setup script range same i d within = (range.each setup same i d within).event
