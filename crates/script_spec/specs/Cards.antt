-- What a card line says, by its fields after `card`: the reader's way through the form.
use Rattle.std.specs.Prelude.{ℕ, ◌==◌, Bool, true, false, nat_lt, List, [], ◌∷◌, ◌++◌, length, if◌then◌else◌, Option}
use Rattle.std.specs.Prelude.{Some, None, option_map, is_some, codes, bytes_eq}
use Rattle.board_spec.specs.Setup.{Base, MemoryBase, IoBase, FittedCard}
use Rattle.script_spec.specs.Numbers.{parse_decimal, ◌>>=◌}

-- `mK` or `iK`
unfoldable pub parse_base : List ℕ → Option Base
parse_base [] = None
parse_base (letter ∷ digits) =
    if letter == 0x6D then option_map MemoryBase (parse_decimal digits) else
    if letter == 0x69 then option_map IoBase (parse_decimal digits) else None

-- the bases and the expansion ROM so far
pub record Tail : Type 0 where
  pub bases : List Base
  pub rom : Option ℕ

-- `xK`, which version 2 has
unfoldable pub parse_rom_bits : (version : ℕ) → List ℕ → Option ℕ
parse_rom_bits version [] = None
parse_rom_bits version (letter ∷ digits) = if version == 2 then (if letter == 0x78 then parse_decimal digits else None)
    else None

abbrev pub has_room : Tail → Bool
has_room tail = nat_lt (length tail.bases) 6

unfoldable pub with_base : Tail → List ℕ → Option Tail
with_base tail field = if has_room tail
    then option_map (λ base. record { bases = tail.bases ++ base ∷ []; rom = None }) (parse_base field)
    else None

unfoldable pub with_rom : Tail → Option ℕ → List ℕ → Option Tail
with_rom tail None field = with_base tail field
with_rom tail (Some bits) field = Some (record { bases = tail.bases; rom = Some bits })

-- with one field more: nothing follows an expansion ROM
unfoldable pub with_field : (version : ℕ) → Tail → List ℕ → Option Tail
with_field version tail field = if is_some tail.rom then None else with_rom tail (parse_rom_bits version field) field

unfoldable pub with_fields : (version : ℕ) → Tail → List (List ℕ) → Option Tail
with_fields version tail [] = Some tail
with_fields version tail (field ∷ later) = do
  tail ← with_field version tail field
  with_fields version tail later

abbrev pub no_tail : Tail
no_tail = record { bases = []; rom = None }

-- whether it is a VGA adapter
abbrev pub parse_vga : List ℕ → Option Bool
parse_vga field =
    if bytes_eq field (codes "vga") then Some true else
    if bytes_eq field (codes "plain") then Some false else None

unfoldable pub parse_card : (version : ℕ) → List (List ℕ) → Option FittedCard
parse_card version [] = None
parse_card version (_ ∷ []) = None
parse_card version (dev ∷ kind ∷ fields) = do
  dev ← parse_decimal dev
  vga ← parse_vga kind
  tail ← with_fields version no_tail fields
  Some (record { dev = dev; vga = vga; bases = tail.bases; rom = tail.rom })
