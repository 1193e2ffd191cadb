-- The state of the drive is spelled and read back.
use Rattle.std.proofs.lemmas.Bool.Decides.{nat_tests}
use Rattle.std.proofs.lemmas.List.{nil_from_length}
use Rattle.std.specs.Int.{w32, to_le_bytes}
use Rattle.std.proofs.Common.{◌≡◌, ℕ, ◌-◌, ◌^◌, ◌<◌, ◌≤◌, Bool, List, ◌∷◌, ◌++◌, length, refl, arith, nat_lt}
use Rattle.byte_fields.specs.Fields.{bound_where}
use Rattle.byte_fields.proofs.Formats.{IsFormat, format_as, fields_format, ◌then◌, ◌&◌, last_field, plain_format}
use Rattle.byte_fields.proofs.Numbers.{any_byte, byte_to, number_to, wide32, flag_format, bound_where-small}
use Rattle.ata_pio.specs.DriveState.{AreRegisters, registers_bytes, registers_fields, IsActivity, number_of, sector_of}
use Rattle.ata_pio.specs.DriveState.{next_word_of, came_of, came_size, activity_bytes, activity_with, activity_fields}
use Rattle.ata_pio.specs.DriveState.{IsDrive, drive_bytes, drive_fields}

-- ---- the registers

registers_format : IsFormat 9 registers_fields registers_bytes AreRegisters
unfolding registers_fields
registers_format =
    fields_format
    (any_byte then λ features good.
    any_byte then λ error good.
    any_byte then λ count good.
    any_byte then λ low good.
    any_byte then λ mid good.
    any_byte then λ high good.
    any_byte then λ device good.
    flag_format then λ srst good.
    last_field _ flag_format)
    (λ r is. (
      (r.features, is.features) & (r.error, is.error) & (r.count, is.count) & (r.low, is.low) & (r.mid, is.mid)
          & (r.high, is.high) & (r.device, is.device) & (r.srst, tt) & (r.nien, tt),
      refl,
    ))
    (λ t. (assumption, refl))

-- ---- what is under way

abbrev spelled : (number sector word : ℕ) → List ℕ → List ℕ
spelled number sector word came = number ∷ (to_le_bytes w32 sector ++ (word ∷ came))

spelled_same : (number s t v w : ℕ) (came same : List ℕ) → s ≡ t → v ≡ w → came ≡ same →
    spelled number s v came ≡ spelled number t w same
spelled_same number s t v w came same one two three = rw (one, two, three) refl

activity_from :
    (sectors number sector word : ℕ) (came : List ℕ) → 0 < sectors → number ≤ 4 →
    sector ≤ bound_where (nat_lt 2 number) (sectors - 1) → word ≤ bound_where (nat_lt 1 number) 255 →
    length came ≡ came_size number word →
    IsActivity sectors (activity_with number sector word came)
    × (activity_bytes (activity_with number sector word came) ≡ spelled number sector word came)
activity_from sectors number sector word came some few at_most small long =
    grind (arith, nat_tests, spelled_same, nil_from_length)

sector_small : (there : Bool) (bound : ℕ) → bound < 2 ^ 32 → bound_where there bound < 2 ^ 32
sector_small there bound few = grind (arith, nat_tests)

activity_format : (sectors : ℕ) → 0 < sectors → sectors ≤ 65536 →
    IsFormat 518 (activity_fields sectors) activity_bytes (IsActivity sectors)
unfolding activity_fields
activity_format sectors some few =
    fields_format
    (byte_to 4 (omega arith) then λ number few_number.
    number_to wide32 (bound_where (nat_lt 2 number) (sectors - 1))
    (sector_small (nat_lt 2 number) (sectors - 1) (omega (arith, few))) then λ sector good.
    byte_to (bound_where (nat_lt 1 number) 255) (bound_where-small (nat_lt 1 number)) then λ word few_word.
    last_field _ (format_as 512 (λ bytes. bytes) (λ bytes. length bytes ≡ came_size number word)
    (plain_format (came_size number word)) (grind (arith, nat_tests, few_number, few_word)) (λ bytes long. long)
    (λ bytes long. long) (λ bytes long. refl)))
    (λ a is. (
      (number_of a, (grind (arith, nat_tests))) & (sector_of a, (grind (arith, nat_tests, is)))
          & (next_word_of a, (grind (arith, nat_tests, is))) & (came_of a, (grind (arith, nat_tests, is))),
      grind (arith, nat_tests, is),
    ))
    (λ t. activity_from sectors t.0 t.2.0 t.2.2.0 t.2.2.2.0 some t.1 t.2.1 t.2.2.1 t.2.2.2.1)

-- ---- the drive

pub drive_format : (sectors : ℕ) → 0 < sectors → sectors ≤ 65536 →
    IsFormat 528 (drive_fields sectors) drive_bytes (IsDrive sectors)
unfolding drive_fields
drive_format sectors some few =
    fields_format
    (registers_format then λ registers good.
    activity_format sectors some few then λ activity good.
    last_field _ flag_format)
    (λ d is. ((d.registers, is.registers) & (d.activity, is.activity) & (d.request, tt), refl))
    (λ t. (record { registers = t.1; activity = t.2.1 }, refl))
