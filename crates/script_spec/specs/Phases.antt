-- The phases of a script as the program keeps them.
use Rattle.std.specs.Prelude.{List, map}
use Rattle.board_prelude.specs.{Vec, Statement}

-- the statements of each phase
abbrev pub lists_of : {Z : Type 0} → List (Vec Statement Z) → List (List Statement)
lists_of phases = map (λ phase. phase.items) phases
