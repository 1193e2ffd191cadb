-- Fields are read as a card exactly where they spell it.
use Rattle.std.proofs.Common.{◌≡◌, ℕ, ◌<◌, ◌≤◌, ◌⊎◌, inl, inr, Bool, true, false, Some, None, List, [], ◌∷◌, ◌++◌}
use Rattle.std.proofs.Common.{length, map, All, refl, append_assoc, arith, codes, decimal, ◌+◌, Option, IfSome}
use Rattle.std.proofs.Common.{append-nil, length-append, eq-eqb, lt-ltb}
use Rattle.board_prelude.proofs.{nat_tests, All-nil, All-push, map-append, Base, All-head, All-tail}
use Rattle.script_spec.specs.Grammar.{IsBaseForm, IsRomForm, IsCardForm}
use Rattle.script_spec.specs.Cards.{parse_base, Tail, parse_rom_bits, with_base, with_rom, with_field, with_fields}
use Rattle.script_spec.specs.Cards.{no_tail, parse_vga, parse_card}
use Rattle.script_spec.proofs.Chains.{some_is, then_said, if_some, word_is}
use Rattle.script_spec.proofs.NumberTexts.{decimal_if, decimal_back}
use Rattle.script_spec.proofs.ItemWords.{kind_word, base_word, tail_words, rom_words}

base_if : (field : List ℕ) → IfSome (parse_base field) (λ base. (field ≡ base_word base) × IsBaseForm base)
unfolding parse_base
base_if [] = tt
base_if (letter ∷ digits) = grind (arith, nat_tests, decimal_if digits)

rom_if : (version : ℕ) (field : List ℕ) → IfSome (parse_rom_bits version field)
    (λ bits. (field ≡ codes "x" ++ decimal bits) × IsRomForm version (Some bits))
unfolding parse_rom_bits
rom_if version [] = tt
rom_if version (letter ∷ digits) = grind (arith, nat_tests, decimal_if digits)

abbrev pub fresh : List Base → Tail
fresh before = record { bases = before; rom = None }

abbrev closed : List Base → ℕ → Tail
closed before bits = record { bases = before; rom = Some bits }

-- nothing follows an expansion ROM
ended : (version : ℕ) (before : List Base) (fields : List (List ℕ)) (bits : ℕ) (tail : Tail)
    → with_fields version (closed before bits) fields ≡ Some tail → (fields ≡ []) × (closed before bits ≡ tail)
unfolding with_fields with_field
ended version before [] bits tail e = (refl, some_is _ tail e)
ended version before (_ ∷ _) bits tail e = absurd cc

-- a field is an expansion ROM, or a base
field_read : (version : ℕ) (before : List Base) (field : List ℕ) (next : Tail)
    → with_field version (fresh before) field ≡ Some next
    → ((bits : ℕ) × (parse_rom_bits version field ≡ Some bits) × (next ≡ closed before bits))
    ⊎ ((base : Base) × (parse_base field ≡ Some base) × (next ≡ fresh (before ++ base ∷ [])) × (length before < 6))
unfolding with_field with_rom with_base
field_read version before field next e = grind (arith, nat_tests)

-- what the fields after the kind add to the bases so far
record IsTail (version : ℕ) (before : List Base) (fields : List (List ℕ)) (tail : Tail) : Type 0 where
  pub words : map base_word before ++ fields ≡ tail_words tail.bases tail.rom
  pub each : All IsBaseForm tail.bases
  pub rom : IsRomForm version tail.rom
  pub count : length tail.bases ≤ 6

tail_read : (version : ℕ) (before : List Base) (fields : List (List ℕ)) (tail : Tail) → length before ≤ 6
    → All IsBaseForm before → with_fields version (fresh before) fields ≡ Some tail → IsTail version before fields tail
unfolding with_fields
tail_read version before [] tail few each e = grind arith
tail_read version before (field ∷ fields) tail few each e =
    let s = then_said (with_field version (fresh before) field) _ tail e in
    elim (field_read version before field s.0 s.1) [
      | inl rom ↦
          let end = ended version before fields rom.0 tail (rw rom.2 at s.2) in
          let read = rw rom.1 at (rom_if version field) in
          grind (arith, nat_tests)
      | inr base ↦
          let read = rw base.1 at (base_if field) in
          let later = tail_read version (before ++ base.0 ∷ []) fields tail
          (omega (arith, length-append before (base.0 ∷ []), base.3))
          (All-push IsBaseForm before base.0 each read.1) (rw base.2 at s.2) in
          grind (arith, nat_tests, map-append, append_assoc)
    ]

vga_if : (field : List ℕ) → IfSome (parse_vga field) (λ vga. field ≡ kind_word vga)
vga_if field = grind (arith, nat_tests, word_is)

pub card_if : (version : ℕ) (words : List (List ℕ)) → IfSome (parse_card version words)
    (λ card. (words ≡ decimal card.dev ∷ kind_word card.vga ∷ tail_words card.bases card.rom) × IsCardForm version card)
unfolding parse_card
card_if version (dev ∷ kind ∷ fields) =
    let tail = if_some (with_fields version no_tail fields) (IsTail version [] fields)
    (λ tail. tail_read version [] fields tail (omega arith) (All-nil IsBaseForm)) in
    grind (arith, decimal_if dev, vga_if kind)
card_if version _ = tt

next_back : (version : ℕ) (before : List Base) (base : Base) → IsBaseForm base → length before < 6
    → with_field version (fresh before) (base_word base) ≡ Some (fresh (before ++ base ∷ []))
unfolding parse_base with_base with_field with_rom parse_rom_bits
next_back version before base form room = grind (arith, nat_tests, lt-ltb, decimal_back)

rom_back : (version : ℕ) (before : List Base) (bits : ℕ) → IsRomForm version (Some bits)
    → with_field version (fresh before) (codes "x" ++ decimal bits) ≡ Some (record { bases = before; rom = Some bits })
unfolding with_field with_rom parse_rom_bits
rom_back version before bits form = rw (eq-eqb version 2 form.0, decimal_back bits form.1) refl

tail_back : (version : ℕ) (before more : List Base) (rom : Option ℕ) → length before + length more ≤ 6
    → All IsBaseForm more
    → IsRomForm version rom
    → with_fields version (fresh before) (map base_word more ++ rom_words rom) ≡ Some
    (record { bases = before ++ more; rom = rom })
unfolding with_fields
tail_back version before [] rom few each form = grind (arith, nat_tests, append-nil, rom_back)
tail_back version before (base ∷ more) rom few each form =
    let room = length-append before (base ∷ []) in
    let forms = All-tail IsBaseForm base more each in
    let later = tail_back version (before ++ base ∷ []) more rom (omega arith) forms form in
    grind (arith, nat_tests, next_back, All-head, All-tail, append_assoc)

pub fitted_back : (version dev : ℕ) (vga : Bool) (bases : List Base) (rom : Option ℕ)
    → IsCardForm version (record { dev = dev; vga = vga; bases = bases; rom = rom })
    → parse_card version (decimal dev ∷ kind_word vga ∷ tail_words bases rom)
    ≡ Some (record { dev = dev; vga = vga; bases = bases; rom = rom })
unfolding parse_card
fitted_back version dev true bases rom form = grind (arith, nat_tests, decimal_back, tail_back)
fitted_back version dev false bases rom form = grind (arith, nat_tests, decimal_back, tail_back)
