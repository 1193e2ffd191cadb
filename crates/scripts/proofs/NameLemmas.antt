-- A name is text.
use Rattle.std.proofs.Common.{◌≡◌, ℕ, zero, suc, ◌<◌, true, List, [], ◌∷◌, get_or, arith, IsUtf8}
use Rattle.board_prelude.proofs.{list_all, and_parts, nat_tests, IsUtf8-from_ascii}
use Rattle.script_spec.specs.Grammar.{is_name_byte, IsName}

each_below : (bytes : List ℕ) → list_all is_name_byte bytes ≡ true → (i : ℕ) → get_or bytes i 0 < 128
each_below [] e i = omega arith
each_below (x ∷ xs) e zero = grind (arith, nat_tests, (and_parts (is_name_byte x) (list_all is_name_byte xs) e).0)
each_below (x ∷ xs) e (suc i) = each_below xs (and_parts (is_name_byte x) (list_all is_name_byte xs) e).1 i

pub name_is_text : (bytes : List ℕ) → IsName bytes → IsUtf8 bytes
name_is_text bytes name = IsUtf8-from_ascii bytes (each_below bytes name.each)
