-- What `==` says of the bases of cards.
use Rattle.std.proofs.Common.{◌≡◌, ℕ, false, List, [], ◌∷◌, Decides, map, not, nat_eq, Option, arith}
use Rattle.board_prelude.proofs.{option_eq, nat_tests, FittedCard}
use Rattle.std.specs.Cmp.Lexicographic.{pointwise}
use Rattle.pci_bars.specs.declared.spec.BaseSpec.{BaseSpec}
use Rattle.pci_bars.specs.contracts.spec.BaseSpecPartialEq.TheImpl.{eq-value}
use Rattle.pci_bars.specs.Bases.{base_of}

pub bases_eq : (xs ys : List BaseSpec) → Decides (pointwise eq-value.it xs ys) (map base_of xs ≡ map base_of ys)
bases_eq [] [] = grind (arith, nat_tests)
bases_eq [] (y ∷ ys) = grind (arith, nat_tests)
bases_eq (x ∷ xs) [] = grind (arith, nat_tests)
bases_eq (x ∷ xs) (y ∷ ys) = grind (arith, nat_tests, bases_eq xs ys)

pub card_same : (one other : FittedCard) → one.dev ≡ other.dev → one.vga ≡ other.vga → one.rom ≡ other.rom →
    one.bases ≡ other.bases → one ≡ other
card_same one other dev vga rom bases = λ k. record { dev = dev k; vga = vga k; bases = bases k; rom = rom k }

pub rom_same : (one other : Option ℕ) → false ≡ not (option_eq nat_eq one other) → one ≡ other
rom_same one other same = grind (arith, nat_tests)

-- `is_same_card` is proved by these
pub ruleset is_same_card_rules = (bases_eq, card_same, rom_same, nat_tests)
