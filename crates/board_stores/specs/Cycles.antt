-- The cycles of a wide access: its parts with their answers.
use Rattle.std.specs.Prelude.{ℕ, List, map, All}
use Rattle.board_base.specs.declared.access.Access.{Access}
use Rattle.board_spec.specs.declared.event.Part.{Part}
use Rattle.board_stores.specs.declared.cut.Cycle.{Cycle}
use Rattle.board_stores.specs.Ready.{IsReady}

abbrev pub accesses : List Cycle → List Access
accesses cycles = map (λ cycle. cycle.access) cycles

abbrev pub answers : List Cycle → List Part
answers cycles = map (λ cycle. cycle.answer) cycles

abbrev pub AreReady : (rom : List ℕ) (contents : List (List ℕ)) → List Cycle → Type 0
AreReady rom contents cycles = All (λ cycle. IsReady rom contents cycle.access cycle.answer) cycles
