-- The fields of a whole image.
use Rattle.std.proofs.Common.{◌≡◌, ℕ, ◌+◌, ◌%◌, ◌/◌, ◌^◌, ◌<◌, ◌≤◌, ◌↔◌, IsTrue, inl, inr, Bool, true, false, List, []}
use Rattle.std.proofs.Common.{◌∷◌, ◌++◌, length, Ok, Err, refl, sym, ap, ◌∙◌, append_assoc, arith, flat_map, All}
use Rattle.std.proofs.Common.{is_some, unwrap_or, length-append, append-nil}
use Rattle.board_prelude.specs.{AllByRecursion, w16, w32, to_le_bytes, Statement, Setup, IsRomSize, is_rom_size, IsDisk}
use Rattle.board_prelude.specs.{IsDiskSize, is_disk_length, most_statements, most_card_memory, most_mib}
use Rattle.board_prelude.proofs.{nat_tests, nil_from_length, recursion_from_All}
use Rattle.std.proofs.lemmas.List.Elements.{All-from_recursion}
use Rattle.board_image.specs.declared.head.Head.{Head}
use Rattle.board_image.specs.ImageBytes.{Saved, magic, image_version, card_bytes, disk_bytes, size_bytes, head_bytes}
use Rattle.board_image.specs.ImageBytes.{step_bytes, image_bytes, IsImageStep, IsImage}
use Rattle.byte_fields.specs.Fields.{flag_byte, then_read, gives, ended, AreBytes}
use Rattle.board_image.specs.ImageFields.{has_disk_size, disk_where, head_fields, setup_fields, steps_fields}
use Rattle.board_image.specs.ImageFields.{saved_fields, image_fields}
use Rattle.byte_fields.proofs.Formats.{then_ok, then_err, IsFormat, format_as, fields_format, ◌then◌, ◌&◌, last_field}
use Rattle.byte_fields.proofs.Formats.{many_format, plain_format, AreGood}
use Rattle.byte_fields.proofs.Numbers.{flag_format, wide16, wide32, byte_within, within_format, where_format, Ranges}
use Rattle.byte_fields.proofs.Exactly.{exactly_format}
use Rattle.board_image.proofs.EventFormats.{wider}
use Rattle.board_image.proofs.StepFormats.{step_format}
use Rattle.board_image.proofs.CardFormats.{AreCardsOf, cards_format}
use Rattle.board_image.proofs.ImageLoops.{same_setup, steps_loop}

-- ---- the head

pub rom_size_to : (size : ℕ) → IsRomSize size → (size < 2 ^ 32) × (is_rom_size size ≡ true)
rom_size_to size is = grind (arith, nat_tests)

pub rom_size_from : (size : ℕ) → is_rom_size size ≡ true → IsRomSize size
rom_size_from size is = grind (arith, nat_tests)

pub rom_most : (size : ℕ) → IsRomSize size → size ≤ 0x8_0000
rom_most size is = grind arith

-- the length that a disk has, and 0 where there is none
abbrev HasDiskSize : (has_disk : Bool) → ℕ → Type 0
HasDiskSize false size = size ≡ 0
HasDiskSize true size = IsDiskSize size

-- whole sectors, and not too many, are what is asked of a length
pub length_from : (size : ℕ) → is_disk_length size ≡ true → IsDiskSize size
length_from size is =
    let said : (size % 512 ≡ 0) × (0 < size) × (size ≤ 33_554_432) = grind (arith, nat_tests) in
    (size / 512, omega (arith, said.0, said.1), omega (arith, said.2), omega (arith, said.0))

pub length_same : (size : ℕ) (test : Bool) → (IsTrue test ↔ IsDiskSize size) → test ≡ is_disk_length size
length_same size test is = grind (arith, nat_tests, length_from)

record IsHead (head : Head) : Type 0 where
  pub mib : Ranges 1 64 head.mib
  pub cards : Ranges 0 8 head.cards
  pub rom : IsRomSize head.rom_size
  pub disk : HasDiskSize head.has_disk head.disk_size
  pub steps : Ranges 0 most_statements head.steps

abbrev head_spelled : Head → List ℕ
head_spelled head =
    magic ++ (to_le_bytes w16 image_version
    ++ (head.mib ∷ head.cards ∷ flag_byte head.has_disk ∷ 0
    ∷ (to_le_bytes w32 head.rom_size ++ (to_le_bytes w32 head.disk_size ++ to_le_bytes w32 head.steps))))

head_format : IsFormat 26 head_fields head_spelled IsHead
unfolding head_fields
head_format =
    fields_format
    (exactly_format magic then λ mark any.
    within_format wide16 image_version image_version (omega arith) then λ version good.
    byte_within 1 64 (omega arith) then λ mib good.
    byte_within 0 8 (omega arith) then λ cards good.
    flag_format then λ has_disk any.
    byte_within 0 0 (omega arith) then λ reserved good.
    where_format wide32 is_rom_size then λ rom_size good.
    where_format wide32 (has_disk_size has_disk) then λ disk_size good.
    last_field
    (λ steps. record {
      mib = mib;
      cards = cards;
      has_disk = has_disk;
      rom_size = rom_size;
      disk_size = disk_size;
      steps = steps;
    })
    (within_format wide32 0 most_statements (omega arith)))
    (λ head is. (
      (tt, tt) & (image_version, (omega arith, omega arith)) & (head.mib, is.mib) & (head.cards, is.cards)
          & (head.has_disk, tt) & (0, (omega arith, omega arith))
          & (head.rom_size, rom_size_to head.rom_size is.rom)
          & (head.disk_size, grind (arith, nat_tests, is.disk)) & (head.steps, is.steps),
      refl,
    ))
    (λ t.
    let disk : HasDiskSize t.2.2.2.2.0 t.2.2.2.2.2.2.2.0 =
    grind (arith, nat_tests, length_from, t.2.2.2.2.2.2.2.1.1) in
    let version : t.2.0 ≡ image_version = omega arith in
    let reserved : t.2.2.2.2.2.0 ≡ 0 = omega arith in
    (assumption (rom_size_from t.2.2.2.2.2.2.0 t.2.2.2.2.2.2.1.1), rw (version, reserved) refl))

-- ---- the setup

record IsFitted (head : Head) (setup : Setup) : Type 0 where
  pub mib : setup.mib ≡ head.mib
  pub cards : AreCardsOf false head.cards most_card_memory setup.cards
  pub rom : length setup.rom ≡ head.rom_size
  pub disk : is_some setup.disk ≡ head.has_disk
  pub disk_size : length (disk_bytes setup) ≡ head.disk_size

abbrev setup_spelled : Setup → List ℕ
setup_spelled setup = flat_map card_bytes setup.cards ++ (setup.rom ++ disk_bytes setup)

setup_format : (head : Head) → IsHead head → IsFormat 34_078_800 (setup_fields head) setup_spelled (IsFitted head)
unfolding setup_fields
setup_format head is =
    let rom = rom_most head.rom_size is.rom in
    let disk : head.disk_size ≤ 0x200_0000 = grind (arith, nat_tests, is.disk) in
    let cards = is.cards.1 in
    wider 34_078_800 (fields_format
    (cards_format false head.cards most_card_memory then λ cards good.
    plain_format head.rom_size then λ rom long.
    last_field (λ disk. record { mib = head.mib; cards = cards; rom = rom; disk = disk_where head.has_disk disk })
    (plain_format head.disk_size))
    (λ setup fit. (
      (setup.cards, fit.cards) & (setup.rom, fit.rom) & (disk_bytes setup, fit.disk_size),
      grind (arith, nat_tests, fit.mib, fit.disk),
    ))
    (λ t.
    let same : unwrap_or (disk_where head.has_disk t.2.2.0) [] ≡ t.2.2.0 =
    grind (arith, nat_tests, nil_from_length t.2.2.0, is.disk, t.2.2.1) in
    let there : is_some (disk_where head.has_disk t.2.2.0) ≡ head.has_disk = grind (arith, nat_tests) in
    (assumption (ap length same ∙ t.2.2.1), rw same refl)))
    (omega (arith, rom, disk, cards))

-- ---- the steps

steps_are : (setup : Setup) (steps : List Statement) →
    AreGood same_setup IsImageStep setup steps ↔ AllByRecursion (IsImageStep setup) steps
steps_are setup [] = (λ good. tt, λ all. tt)
steps_are setup (step ∷ later) =
    let rest = steps_are setup later in (λ good. (good.0, rest.0 good.1), λ all. (all.0, rest.1 all.1))

steps_format : (setup : Setup) (count : ℕ) → count ≤ most_statements → IsFormat 4_250_000 (steps_fields setup count)
    (flat_map step_bytes) (λ steps. (length steps ≡ count) × All (IsImageStep setup) steps)
steps_format setup count few =
    format_as _ _ (λ steps. (length steps ≡ count) × All (IsImageStep setup) steps)
    (many_format steps_loop step_format setup count) (omega (arith, few))
    (λ steps are. (are.0, (steps_are setup steps).1 (recursion_from_All (IsImageStep setup) steps are.1)))
    (λ steps good. (good.0, All-from_recursion (IsImageStep setup) steps ((steps_are setup steps).0 good.1)))
    (λ steps good. refl)

-- ---- the whole

-- the head of an image
abbrev head_of : Saved → Head
head_of saved = record {
  mib = saved.setup.mib;
  cards = length saved.setup.cards;
  has_disk = is_some saved.setup.disk;
  rom_size = length saved.setup.rom;
  disk_size = length (disk_bytes saved.setup);
  steps = length saved.steps;
}

abbrev saved_spelled : Saved → List ℕ
saved_spelled saved = image_bytes saved.setup saved.steps

abbrev IsSaved : Saved → Type 0
IsSaved saved = IsImage saved.setup saved.steps

saved_format : IsFormat 38_328_826 saved_fields saved_spelled IsSaved
unfolding saved_fields image_bytes head_bytes size_bytes
saved_format =
    fields_format
    (head_format then λ head is.
    setup_format _ is then λ setup fit.
    last_field (λ steps. record { setup = setup; steps = steps }) (steps_format setup _ is.steps.1)) (λ saved is.
    let setup = saved.setup in
    let cards = is.fitted.cards in
    let head : IsHead (head_of saved) = record {
      mib = (is.fitted.some_memory, is.few_mib);
      cards = (omega arith, cards.count);
      rom = is.fitted.rom;
      disk = grind (arith, nat_tests, is.fitted.disk);
      steps = (omega arith, is.count);
    } in
    let fitted : IsFitted (head_of saved) setup = assumption in
    ((head_of saved, head) & (setup, fitted) & (saved.steps, (refl, is.each)), refl))
    (λ t.
    let setup = t.2.0 in
    let fit = t.2.1 in
    let saved : Saved = record { setup = setup; steps = t.2.2.0 } in
    let same : head_of saved ≡ t.0 =
    rw (← fit.mib, ← fit.cards.0, ← fit.disk, ← fit.rom, ← fit.disk_size, ← t.2.2.1.0) refl in
    let head : IsHead (head_of saved) = rw same t.1 in
    let most : setup.mib ≤ most_mib = omega (arith, head.mib.1) in (
      (let disk : IsDisk setup.disk = grind (arith, nat_tests, head.disk) in assumption (most, head, fit.cards, disk)),
      sym (simp append_assoc)
          ∙ ap (λ (head : Head). head_spelled head ++ (setup_spelled setup ++ flat_map step_bytes t.2.2.0)) same,
    ))

-- ---- nothing follows

-- the bytes of an image are read as it
pub image_back : (setup : Setup) (steps : List Statement) → IsImage setup steps →
    image_fields (image_bytes setup steps) ≡ Ok (record { setup = setup; steps = steps }, [])
unfolding image_fields
image_back setup steps is =
    let saved : Saved = record { setup = setup; steps = steps } in
    let read = rw append-nil at (saved_format.back saved [] is) in
    rw read refl

-- and as no other, and never as bad
module _ (bytes : List ℕ) (setup : Setup) (steps : List Statement) (is : IsImage setup steps)
    (spelled : bytes ≡ image_bytes setup steps) where
  pub image_same : (saved : Saved) (rest : List ℕ) → image_fields bytes ≡ Ok (saved, rest) →
      saved ≡ record { setup = setup; steps = steps }
  image_same saved rest read = let back = image_back setup steps is in grind (arith, nat_tests)

  pub image_never : (left : ℕ) → image_fields bytes ≡ Err left → ⊥
  image_never left read = let back = image_back setup steps is in grind (arith, nat_tests)

-- what is read is an image, and the bytes are its
pub image_taken : (bytes rest : List ℕ) (saved : Saved) → AreBytes bytes → image_fields bytes ≡ Ok (saved, rest) →
    IsImage saved.setup saved.steps × (bytes ≡ image_bytes saved.setup saved.steps)
unfolding image_fields
image_taken bytes rest saved are is =
    let first = then_ok _ (λ (saved : Saved). λ left. then_read (ended left) (λ done. gives saved)) saved _ is in
    let end : (first.0.1 ≡ []) × (first.0.0 ≡ saved) = let is = first.2 in grind (arith, nat_tests) in
    let told = saved_format.taken bytes first.0.0 first.0.1 are first.1 in
    rw (← end.1) (told.1, rw (end.0, append-nil (saved_spelled first.0.0)) at told.0)

-- a bad field lies within the bytes, and not far from their start
pub image_bad : (bytes : List ℕ) (left : ℕ) → AreBytes bytes → image_fields bytes ≡ Err left →
    (left ≤ length bytes) × (length bytes ≤ left + 38_328_826)
unfolding image_fields
image_bad bytes left are is =
    elim (then_err _ (λ (saved : Saved). λ left. then_read (ended left) (λ done. gives saved)) _ is) [
      | inl early ↦ saved_format.bad bytes left are early
      | inr late ↦
          let told = saved_format.taken bytes late.0.0 late.0.1 are late.1 in
          let same : length late.0.1 ≡ left = let is = late.2 in grind (arith, nat_tests) in
          let few = saved_format.size late.0.0 told.1 in
          let whole : length bytes ≡ length (saved_spelled late.0.0) + length late.0.1 =
          ap length told.0 ∙ length-append (saved_spelled late.0.0) late.0.1 in
          (omega (arith, same, whole), omega (arith, same, whole, few))
    ]

-- `read_image` is proved by these
pub ruleset read_image_rules = (image_same, image_never, image_taken, image_bad, nat_tests)
