use Rattle.std.proofs.Common.{take}
use Rattle.board_spec.specs.MapText.{areas_text}
use Rattle.logs.specs.Adds.{AddsWords}
use Rattle.logs.proofs.map.push_areas.Given as goal

-- the areas so far
abbrev pub invariant-loop-area : goal.invariant-loop-area
invariant-loop-area l = AddsWords l.fn.text l.text (areas_text (take l.area-index l.areas))
