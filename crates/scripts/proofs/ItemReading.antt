-- What the reader returns for a line.
use Rattle.board_prelude.proofs.{nat_tests}
use Rattle.std.proofs.Common.{arith, ◌≡◌, ℕ, Option, List, IfSome}
use Rattle.std.specs.Option.{option_map, IfNone}
use Rattle.script_spec.specs.Grammar.{HasForm}
use Rattle.script_spec.specs.Items.{parse_line}
use Rattle.script_spec.proofs.LineReading.{read_says, nothing_said}
use Rattle.scripts.specs.declared.item.Item.{Item as Read}
use Rattle.scripts.specs.Items.{line_said, HasNoForm}

-- only what the line says
pub said : (version : ℕ) (line : List ℕ) (read : Option Read) → option_map line_said read ≡ parse_line version line
    → IfSome read (λ item. HasForm version line (line_said item))
said version line read e = grind (arith, nat_tests, read_says)

-- and nothing only of a line without a form
pub unsaid : (version : ℕ) (line : List ℕ) (read : Option Read) → option_map line_said read ≡ parse_line version line
    → IfNone read (HasNoForm version line)
unsaid version line read e = grind (arith, nat_tests, nothing_said)
