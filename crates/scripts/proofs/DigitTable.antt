-- The table of digits holds what each byte stands for.
use Rattle.board_prelude.proofs.{nat_tests, range_with_len, lt-ltb, le-ltb, get_or-map-range_with_len}
use Rattle.std.proofs.Common.{◌≡◌, ℕ, ◌<◌, ◌≤◌, cond, ltb, Option, Some, None, List, get_or, map, refl, sym, ap, ◌∙◌}
use Rattle.std.proofs.Common.{arith}
use Rattle.script_spec.specs.Numbers.{digit_value}

abbrev or_255 : Option ℕ → ℕ
or_255 (Some digit) = digit
or_255 None = 255

abbrev bytes : List ℕ
bytes = range_with_len 0 256

-- the table, byte by byte
abbrev pub digits : List ℕ
digits = map (λ byte. or_255 (digit_value byte)) bytes

-- what the table says of a byte, where 16 and more is no digit
abbrev said : ℕ → Option ℕ
said byte = cond (ltb (get_or digits byte 0) 16) (Some (get_or digits byte 0)) None

is_right : map said bytes ≡ map digit_value bytes
is_right = refl

right : (byte : ℕ) → byte < 256 → said byte ≡ digit_value byte
right byte fits =
    sym (get_or-map-range_with_len said 0 256 byte byte None fits (omega arith))
    ∙ ap (λ (all : List (Option ℕ)). get_or all byte None) is_right
    ∙ get_or-map-range_with_len digit_value 0 256 byte byte None fits (omega arith)

pub some_digit : (byte : ℕ) → byte < 256 → get_or digits byte 0 < 16 → Some (get_or digits byte 0) ≡ digit_value byte
some_digit byte fits small = grind (arith, nat_tests, lt-ltb, right)

pub no_digit : (byte : ℕ) → byte < 256 → 16 ≤ get_or digits byte 0 → None ≡ digit_value byte
no_digit byte fits large = grind (arith, nat_tests, le-ltb, right)
