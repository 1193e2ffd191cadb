-- Worked examples of the machines: the lines of an example stand one after the other, and each says what
-- is done to the device, and what the device gives where it is read.
use Rattle.std.specs.Prelude.{ℕ, Bool, List, [], ◌∷◌, ◌++◌, if◌then◌else◌}

-- a level as a number
abbrev pub digit : Bool → ℕ
digit level = if level then 1 else 0

-- what a device gives over the lines, from a state on
unfoldable pub given : {Line State : Type 0} →
    (Line → State → List ℕ) → (Line → State → State) → List Line → State → List ℕ
given gives after [] state = []
given gives after (line ∷ rest) state = gives line state ++ given gives after rest (after line state)

-- what the lines say that it gives
unfoldable pub told : {Line : Type 0} → (Line → List ℕ) → List Line → List ℕ
told tells [] = []
told tells (line ∷ rest) = tells line ++ told tells rest

-- the state after the lines
unfoldable pub after_lines : {Line State : Type 0} → (Line → State → State) → List Line → State → State
after_lines after [] state = state
after_lines after (line ∷ rest) state = after_lines after rest (after line state)
