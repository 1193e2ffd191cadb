-- Hexadecimal digits, added up as if each byte were one.
use Rattle.std.specs.Prelude.{ℕ, ◌≡◌, ◌+◌, ◌*◌, ◌^◌, ◌<◌, ◌≤◌, List, [], ◌∷◌, Option, Some, None}
use Rattle.script_spec.specs.Numbers.{parse_digit}

-- a digit adds what it stands for, and any other byte more than eight digits make
abbrev pub value_or_more : Option ℕ → ℕ
value_or_more None = 2 ^ 32
value_or_more (Some digit) = digit

abbrev pub summand_of : (byte : ℕ) → ℕ
summand_of byte = value_or_more (parse_digit 16 byte)

-- the sum after the bytes that made `sum`
abbrev pub sum_after : (sum : ℕ) → List ℕ → ℕ
sum_after sum [] = sum
sum_after sum (byte ∷ later) = sum_after (sum * 16 + summand_of byte) later

-- a sum is a number below the limit, and where there is none it reaches the limit
abbrev pub IsSum : (limit : ℕ) → Option ℕ → (sum : ℕ) → Type 0
IsSum limit None sum = limit ≤ sum
IsSum limit (Some number) sum = (sum ≡ number) × (number < limit)
