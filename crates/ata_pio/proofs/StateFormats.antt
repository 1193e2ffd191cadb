-- The state of a disk is spelled and read back.
use Rattle.std.proofs.Common.{rules, ◌≡◌, ℕ, ◌+◌, ◌*◌, ◌<◌, ◌≤◌, Bool, true, List, [], ◌∷◌, length, map, flat_map, refl}
use Rattle.std.proofs.Common.{ap, ◌∙◌, arith}
use Rattle.std.proofs.lemmas.List.Concat.{flat_map-cons}
use Rattle.std.proofs.lemmas.Bool.Decides.{nat_tests}
use Rattle.device_spec.specs.Ata.State.{is_disk_length}
use Rattle.byte_fields.specs.Fields.{Reading as Reader, flag_byte, flag_field}
use Rattle.byte_fields.specs.Loads.{OneSpelling}
use Rattle.byte_fields.proofs.Loops.{IsLoop}
use Rattle.byte_fields.proofs.Formats.{IsFormat, format_as, fields_format, ◌then◌, ◌&◌, last_field, many_format}
use Rattle.byte_fields.proofs.Formats.{AreGood}
use Rattle.byte_fields.proofs.Numbers.{Any, flag_format}
use Rattle.byte_fields.proofs.PageFormats.{pages_format}
use Rattle.byte_fields.proofs.Loaded.{one_spelling}
use Rattle.ata_pio.specs.State.{sector_size, count_of, IsMedium, medium_bytes, flags_fields, medium_fields, IsDisk}
use Rattle.ata_pio.specs.State.{disk_bytes, disk_fields}
use Rattle.ata_pio.proofs.DriveFormats.{drive_format}

-- ---- flags

abbrev pub a_flag : Unit {0} → Reader Bool
a_flag state = flag_field

abbrev pub past_flag : Unit {0} → Bool → Unit {0}
past_flag state flag = state

abbrev pub flags_after : Unit {0} → (count : ℕ) → Reader (List Bool)
flags_after state count = flags_fields count

pub flags_loop : IsLoop a_flag past_flag flags_after
unfolding flags_fields
flags_loop = record { none = λ state bytes. refl; more = λ state n bytes. refl }

abbrev one_byte : Bool → List ℕ
one_byte flag = flag_byte flag ∷ []

one_each : (flags : List Bool) → flat_map one_byte flags ≡ map flag_byte flags
one_each [] = refl
one_each (flag ∷ later) = flat_map-cons one_byte flag later ∙ ap (λ bytes. flag_byte flag ∷ bytes) (one_each later)

all_good : (state : Unit {0}) (flags : List Bool) →
    AreGood past_flag (λ (s : Unit {0}) (flag : Bool). Any flag) state flags
all_good state [] = tt
all_good state (flag ∷ later) = (tt, all_good state later)

flags_format : (count : ℕ) → IsFormat count (flags_fields count) (map flag_byte) (λ flags. length flags ≡ count)
flags_format count =
    format_as _ _ (λ flags. length flags ≡ count) (many_format flags_loop (λ state. flag_format) tt count) (omega arith)
    (λ flags long. (long, all_good tt flags))
    (λ flags good. good.0)
    (λ flags good. one_each flags)

-- ---- the sectors

medium_format : (fitted : List ℕ) →
    IsFormat (2 * length fitted + count_of fitted) (medium_fields fitted) (medium_bytes fitted) (IsMedium fitted)
unfolding medium_fields
medium_format fitted =
    fields_format
    (pages_format sector_size fitted (omega arith) then λ bytes good.
    last_field _ (flags_format (count_of fitted)))
    (λ m is. ((m.bytes, is.bytes) & (m.bad, is.bad), refl))
    (λ t. (record { bytes = t.1; bad = t.2.1 }, refl))

-- ---- the disk

pub record HasSectors (fitted : List ℕ) : Type 0 where
  pub some : 0 < count_of fitted
  pub few : count_of fitted ≤ 65536
  pub whole : length fitted ≡ 512 * count_of fitted

pub sectors_of_length : (fitted : List ℕ) → is_disk_length (length fitted) ≡ true → HasSectors fitted
sectors_of_length fitted is = grind (arith, nat_tests)

abbrev pub most_bytes : (fitted : List ℕ) → ℕ
most_bytes fitted = 528 + (2 * length fitted + count_of fitted)

pub disk_format : (fitted : List ℕ) → is_disk_length (length fitted) ≡ true →
    IsFormat (most_bytes fitted) (disk_fields fitted) (disk_bytes fitted) (IsDisk fitted)
unfolding disk_fields
disk_format fitted size =
    let has = sectors_of_length fitted size in
    fields_format
    (drive_format (count_of fitted) has.some has.few then λ drive good.
    last_field _ (medium_format fitted))
    (λ d is. ((d.drive, is.drive) & (d.medium, is.medium), refl))
    (λ t. (record { size = size; drive = t.1; medium = t.2.1 }, refl))

pub one_disk : (fitted : List ℕ) → OneSpelling (disk_bytes fitted) (IsDisk fitted)
one_disk fitted left right of_left of_right same = search (rules, one_spelling, disk_format)
