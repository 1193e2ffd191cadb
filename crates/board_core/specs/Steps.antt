-- Statements that a board does.
use Rattle.std.specs.Prelude.{List, All}
use Rattle.board_prelude.specs.{Statement, Setup, IsInRange}

abbrev pub AreInRange : Setup → List Statement → Type 0
AreInRange setup statements = All (λ statement. IsInRange setup statement.event) statements
