-- Setups and the identities of cards are spelled and read back, and so is what stands in front of the state of a
-- running board.
use Rattle.std.proofs.Common.{◌≡◌, ℕ, zero, suc, ◌-◌, ◌*◌, ◌+◌, ◌^◌, ◌<◌, ◌≤◌, true, List, length, Option, Some, None}
use Rattle.std.proofs.Common.{Err, refl, arith, [], ◌∷◌, ap, ◌∙◌}
use Rattle.std.proofs.Common.{flat_map, All, ◌↔◌}
use Rattle.board_prelude.proofs.{eqb-true, nat_tests, nil_from_length, AllByRecursion, recursion_from_All}
use Rattle.board_prelude.specs.{IsSetup, IsRomSize, is_rom_size, IsDisk, most_card_memory, most_mib}
use Rattle.byte_fields.proofs.Formats.{IsFormat, fields_format, ◌then◌, ◌&◌, last_field, whole_field, format_as}
use Rattle.byte_fields.proofs.Formats.{many_format, AreGood}
use Rattle.byte_fields.proofs.Numbers.{wide32, byte_within, within_format, where_format, wide16, any_byte, any_number}
use Rattle.byte_fields.proofs.Numbers.{Ranges}
use Rattle.byte_fields.proofs.PageFormats.{memory_format, memory_then}
use Rattle.byte_fields.specs.Pages.{memory_fields, memory_page}
use Rattle.byte_fields.specs.Pages.{pages_fields, each_page_field, cut, page_field}
use Rattle.board_image.proofs.EventFormats.{wider}
use Rattle.board_image.proofs.CardFormats.{cards_format, stand_anywhere}
use Rattle.board_image.proofs.ImageFormats.{rom_size_to, rom_size_from, rom_most, length_from}
use Rattle.machine.specs.Setups.{bytes_on, counted_bytes, disk_fields, disk_where, is_fitted_size, rom_fields}
use Rattle.machine.specs.Setups.{parts_fields, setup_bytes, setup_fields}
use Rattle.std.proofs.lemmas.List.Elements.{All-from_recursion}
use Rattle.machine.specs.declared.identity.FittedIdentity.{FittedIdentity}
use Rattle.byte_fields.specs.Fields.{Reading}
use Rattle.byte_fields.proofs.Loops.{IsLoop}
use Rattle.machine.specs.Identities.{AreIdentities, IsIdentity, first_bytes, last_bytes, identity_bytes}
use Rattle.machine.specs.Identities.{identity_fields, identities_bytes, identities_fields, some_identities}
use Rattle.board_chipset.proofs.Marks.{exactly_format}
use Rattle.machine.specs.Fitted.{IsFitting, fitting_bytes, fitting_fields, magic, version}

-- ---- memory in two parts

-- without a byte there is no page
pub none_left : (count : ℕ) → 0 < count → memory_fields count [] ≡ Err 0
unfolding pages_fields each_page_field cut page_field
none_left zero some = absurd (omega (arith, some))
none_left (suc n) some = refl

-- whole pages, and then what is left
pub in_parts : (pages size first : ℕ) (bytes : List ℕ) → first ≡ pages * memory_page → first ≤ size →
    memory_fields size bytes ≡ parts_fields first (size - first) bytes
unfolding parts_fields
in_parts pages size first bytes whole fits =
    let long : size ≡ first + (size - first) = omega (arith, fits) in
    ap (λ (n : ℕ). memory_fields n bytes) long
    ∙ rw (← whole) at (memory_then pages (size - first) bytes)

-- ---- the ROM

rom_format : IsFormat 1_048_580 rom_fields counted_bytes (λ rom. IsRomSize (length rom))
unfolding rom_fields
rom_format =
    fields_format
    (where_format wide32 is_rom_size then λ size good.
    whole_field (wider 1_048_576 (memory_format size) (omega (arith, rom_most size (rom_size_from size good.1)))))
    (λ rom is. ((length rom, rom_size_to (length rom) is) & (rom, refl), refl))
    (λ t. (rw t.2.1 (rom_size_from t.0 t.1.1), rw t.2.1 refl))

-- ---- the disk

pub size_of_disk : (disk : Option (List ℕ)) → IsDisk disk →
    (length (bytes_on disk) < 2 ^ 32) × (is_fitted_size (length (bytes_on disk)) ≡ true)
size_of_disk None is = (omega arith, refl)
size_of_disk (Some bytes) (sectors, some, few, is) = grind (arith, nat_tests)

size_most : (size : ℕ) → is_fitted_size size ≡ true → size ≤ 33_554_432
size_most size is = grind (arith, nat_tests)

disk_from : (size : ℕ) (bytes : List ℕ) → is_fitted_size size ≡ true → length bytes ≡ size →
    IsDisk (disk_where size bytes)
disk_from size bytes fits long = grind (arith, nat_tests, length_from)

disk_again : (disk : Option (List ℕ)) → IsDisk disk → disk ≡ disk_where (length (bytes_on disk)) (bytes_on disk)
disk_again None is = refl
disk_again (Some bytes) (sectors, some, few, is) = grind (arith, nat_tests)

bytes_again : (size : ℕ) (bytes : List ℕ) → length bytes ≡ size → bytes_on (disk_where size bytes) ≡ bytes
bytes_again size bytes long = grind (arith, nat_tests, nil_from_length, eqb-true)

abbrev disk_spelled : Option (List ℕ) → List ℕ
disk_spelled disk = counted_bytes (bytes_on disk)

disk_format : IsFormat 67_108_868 disk_fields disk_spelled IsDisk
unfolding disk_fields
disk_format =
    fields_format
    (where_format wide32 is_fitted_size then λ size good.
    last_field (disk_where size) (wider 67_108_864 (memory_format size) (omega (arith, size_most size good.1))))
    (λ disk is. ((length (bytes_on disk), size_of_disk disk is) & (bytes_on disk, refl), disk_again disk is))
    (λ t. (disk_from t.0 t.2.0 t.1.1 t.2.1, rw (bytes_again t.0 t.2.0 t.2.1, t.2.1) refl))

-- ---- the whole

pub setup_format : IsFormat 70_000_000 setup_fields setup_bytes IsSetup
unfolding setup_fields
setup_format =
    wider 70_000_000 (fields_format
    (within_format wide32 1 most_mib (omega arith) then λ mib good.
    byte_within 0 8 (omega arith) then λ count few.
    wider 80 (cards_format true count most_card_memory) (omega (arith, few.1)) then λ cards are.
    rom_format then λ rom is.
    last_field (λ disk. record { mib = mib; cards = cards; rom = rom; disk = disk }) disk_format)
    (λ setup is.
    let cards = is.cards in (
      (setup.mib, (is.some_memory, is.most_memory)) & (length setup.cards, (omega arith, cards.count))
          & (setup.cards, (refl, cards.each, cards.rises, is.windows, stand_anywhere setup.cards)) & (setup.rom, is.rom) & (setup.disk, is.disk),
      refl,
    ))
    (λ t.
    let cards = t.2.2.1 in
    let few : length t.2.2.0 ≤ 8 = rw cards.0 t.2.1.1 in
    (assumption (few, cards), rw cards.0 refl))) (omega arith)

-- ---- what cards say that they are

identity_format : IsFormat 15 identity_fields identity_bytes IsIdentity
unfolding identity_fields first_bytes last_bytes
identity_format =
    fields_format
    (any_byte then λ dev below.
    any_number wide16 (omega arith) then λ vendor_id below.
    any_number wide16 (omega arith) then λ device_id below.
    any_byte then λ revision_id below.
    any_number wide32 (omega arith) then λ class_code below.
    any_number wide16 (omega arith) then λ subsystem_vendor_id below.
    any_number wide16 (omega arith) then λ subsystem_id below.
    last_field
    (λ interrupt_pin. record {
      dev = dev;
      identity = record {
        vendor_id = vendor_id;
        device_id = device_id;
        revision_id = revision_id;
        class_code = class_code;
        subsystem_vendor_id = subsystem_vendor_id;
        subsystem_id = subsystem_id;
        interrupt_pin = interrupt_pin;
      };
    })
    any_byte)
    (λ c is. (
      (c.dev, is.dev) & (c.identity.vendor_id, is.vendor_id) & (c.identity.device_id, is.device_id)
          & (c.identity.revision_id, is.revision_id) & (c.identity.class_code, is.class_code)
          & (c.identity.subsystem_vendor_id, is.subsystem_vendor_id) & (c.identity.subsystem_id, is.subsystem_id)
          & (c.identity.interrupt_pin, is.interrupt_pin),
      refl,
    ))
    (λ t. (assumption, refl))

-- ---- one after another

abbrev pub one_identity : Unit {0} → Reading FittedIdentity
one_identity before = identity_fields

abbrev pub past_identity : Unit {0} → FittedIdentity → Unit {0}
past_identity before card = before

abbrev pub IsAfter : Unit {0} → FittedIdentity → Type 0
IsAfter before card = IsIdentity card

pub identities_loop : IsLoop one_identity past_identity some_identities
unfolding some_identities
identities_loop = record { none = λ before bytes. refl; more = λ before n bytes. refl }

good_cards : (cards : List FittedIdentity) → AllByRecursion IsIdentity cards ↔ AreGood past_identity IsAfter tt cards
good_cards [] = ((λ all. tt), (λ good. tt))
good_cards (card ∷ later) =
    let rest = good_cards later in ((λ all. (all.0, rest.0 all.1)), (λ good. (good.0, rest.1 good.1)))

some_format : (count : ℕ) → count ≤ 8 → IsFormat 120 (some_identities tt count) (flat_map identity_bytes)
    (λ cards. (length cards ≡ count) × All IsIdentity cards)
some_format count few =
    format_as 120 (flat_map identity_bytes) (λ cards. (length cards ≡ count) × All IsIdentity cards)
    (many_format identities_loop (λ before. identity_format) tt count) (omega (arith, few))
    (λ cards are. (are.0, (good_cards cards).0 (recursion_from_All IsIdentity cards are.1)))
    (λ cards good. (good.0, All-from_recursion IsIdentity cards ((good_cards cards).1 good.1)))
    (λ cards good. refl)

pub identities_format : IsFormat 121 identities_fields identities_bytes AreIdentities
unfolding identities_fields
identities_format =
    fields_format (byte_within 0 8 (omega arith) then λ count few. whole_field (some_format count few.1))
    (λ cards are. ((length cards, (omega arith, are.few)) & (cards, (refl, are.each)), refl))
    (λ t. (record { few = rw t.2.1.0 t.1.1; each = t.2.1.1 }, rw t.2.1.0 refl))

-- ---- both

only_version : (n : ℕ) → Ranges version version n → n ≡ version
only_version n is = omega arith

pub fitting_format : IsFormat 70_000_200 fitting_fields fitting_bytes IsFitting
unfolding fitting_fields fitting_bytes
fitting_format =
    wider 70_000_200 (fields_format
    (exactly_format magic then λ mark any.
    within_format wide16 version version (omega arith) then λ number good.
    setup_format then λ setup is.
    last_field (λ identities. record { setup = setup; identities = identities }) identities_format)
    (λ f is. ((tt, tt) & (version, (omega arith, omega arith)) & (f.setup, is.fits) & (f.identities, is.say), refl))
    (λ t. (record { fits = t.2.2.1; say = t.2.2.2.1 }, rw (only_version t.2.0 t.2.1) refl))) (omega arith)
