-- A text is cut at a mark.
use Rattle.std.specs.Prelude.{ℕ, ◌==◌, nat_lt, List, [], ◌∷◌, if◌then◌else◌, Option, Some, None, option_map}
use Rattle.script_spec.specs.Numbers.{parse_digit}

-- what stands before the first mark, and after it
unfoldable pub cut : (mark : ℕ) → List ℕ → Option (List ℕ × List ℕ)
cut mark [] = None
cut mark (byte ∷ rest) =
    if byte == mark then Some ([], rest) else option_map (λ p. (byte ∷ p.0, p.1)) (cut mark rest)

-- a number of one decimal digit
unfoldable pub parse_one_digit : List ℕ → Option ℕ
parse_one_digit [] = None
parse_one_digit (byte ∷ []) = parse_digit 10 byte
parse_one_digit (_ ∷ _ ∷ _) = None

-- a number that fits a byte
abbrev pub if_byte : ℕ → Option ℕ
if_byte n = if nat_lt n 0x100 then Some n else None
