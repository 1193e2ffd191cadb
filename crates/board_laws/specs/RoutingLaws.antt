-- Which lines the PCI interrupt pins can be routed to.
use Rattle.std.specs.Prelude.{◌≡◌, ◌≤◌, ◌==◌, ℕ, Bool, true, List, [], ◌∷◌, Some, None}
use Rattle.board_prelude.specs.{list_any, line_of_route}

-- the lines that a pin can be routed to
abbrev pub routable_lines : List ℕ
routable_lines = 3 ∷ 4 ∷ 5 ∷ 6 ∷ 7 ∷ 9 ∷ 10 ∷ 11 ∷ 12 ∷ 14 ∷ 15 ∷ []

abbrev pub is_routable : ℕ → Bool
is_routable line = list_any (λ other. other == line) routable_lines

-- A byte routes its pin to one of these lines, to each of them by its number, and to none where bit 7 is 1.
pub record RoutesOneLine : Type 0 where
  pub reached : (byte line : ℕ) → line_of_route byte ≡ Some line → is_routable line ≡ true
  pub each : (line : ℕ) → is_routable line ≡ true → line_of_route line ≡ Some line
  pub disabled : (byte : ℕ) → 0x80 ≤ byte → line_of_route byte ≡ None
