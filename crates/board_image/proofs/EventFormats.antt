-- The fields of steps.
use Rattle.std.proofs.Common.{◌≡◌, ℕ, ◌%◌, ◌^◌, ◌<◌, ◌≤◌, [], ◌∷◌, Some, ◌⊎◌, refl, List, arith, ◌==◌}
use Rattle.board_prelude.proofs.{nat_tests, PortAccess, bytes_of, is_write, IsBusAccess, IsWideAccess, code_found}
use Rattle.std.proofs.Math.Nat.{one-le-pow}
use Rattle.board_base.specs.declared.access.Access.{Access}
use Rattle.board_image.specs.ImageBytes.{kind_byte, tag_byte, memory_bytes, port_bytes, wide_bytes}
use Rattle.board_image.specs.EventFields.{kind_field, width_field, tag_of, most_value, is_wide_size, is_wide_place}
use Rattle.board_image.specs.EventFields.{memory_fields, port_fields, wide_fields}
use Rattle.byte_fields.specs.Fields.{Reading}
use Rattle.board_image.specs.declared.tag.Tag.{Tag}
use Rattle.byte_fields.proofs.Formats.{IsFormat, format_as, fields_format, ◌then◌, ◌&◌, last_field}
use Rattle.byte_fields.proofs.Numbers.{Any, flag_format, wide16, wide32, wide64, byte_format, byte_where, Tells}
use Rattle.byte_fields.proofs.Numbers.{where_format, within_format}
use Rattle.board_image.specs.declared.tag.Tag.TheVariants as tags

pub kind_format : IsFormat 1 kind_field (λ kind. kind_byte kind ∷ []) Any
kind_format = grind (arith, nat_tests, byte_format)

pub width_format : IsFormat 1 width_field (λ width. bytes_of width ∷ []) Any
width_format = grind (arith, nat_tests, byte_format)

pub tag_tells : Tells tag_of tag_byte
tag_tells n tag told = grind (arith, nat_tests, code_found)

pub tag_said : (tag : Tag) → Any tag → (tag_byte tag < 2 ^ 8) × (tag_of (tag_byte tag) ≡ Some tag)
tag_said tag any = grind (arith, nat_tests)

-- ---- accesses

-- in more bytes at most
pub wider : {A : Type 0} {n : ℕ} (m : ℕ) {reads : Reading A} {spelled : A → List ℕ} {IsGood : A → Type 0} →
    IsFormat n reads spelled IsGood → n ≤ m → IsFormat m reads spelled IsGood
wider m {spelled = spelled} {IsGood = IsGood} is few =
    format_as m spelled IsGood is few (λ value good. good) (λ value good. good) (λ value good. refl)

abbrev pub CanSpellMemory : Access → Type 0
CanSpellMemory access =
    (access.addr < 2 ^ 32) × IsBusAccess (is_write access.kind) access.addr access.width access.value

abbrev pub CanSpellPort : PortAccess → Type 0
CanSpellPort access = (access.port < 2 ^ 16) × IsBusAccess access.write access.port access.width access.value

pub memory_format : IsFormat 11 memory_fields memory_bytes CanSpellMemory
unfolding memory_fields memory_bytes
memory_format =
    fields_format
    (kind_format then λ kind any.
    flag_format then λ smm any.
    width_format then λ width any.
    where_format wide32 (λ addr. addr % bytes_of width == 0) then λ addr good.
    last_field (λ value. record { kind = kind; addr = addr; width = width; smm = smm; value = value })
    (within_format wide32 0 (most_value (is_write kind) (bytes_of width)) (grind arith)))
    (λ access can. (
      (access.kind, tt) & (access.smm, tt) & (access.width, tt)
          & (access.addr, grind (arith, nat_tests, can)) & (access.value, grind (arith, nat_tests, can.1)),
      refl,
    ))
    (λ t. (grind (arith, nat_tests, t.2.2.2.1, t.2.2.2.2.1), refl))

pub port_format : IsFormat 8 port_fields port_bytes CanSpellPort
unfolding port_fields port_bytes
port_format =
    fields_format
    (flag_format then λ write any.
    width_format then λ width any.
    where_format wide16 (λ port. port % bytes_of width == 0) then λ port good.
    last_field (λ value. record { write = write; port = port; width = width; value = value })
    (within_format wide32 0 (most_value write (bytes_of width)) (grind arith)))
    (λ access can. (
      (access.write, tt) & (access.width, tt)
          & (access.port, grind (arith, nat_tests, can)) & (access.value, grind (arith, nat_tests, can.1)),
      refl,
    ))
    (λ t. (grind (arith, nat_tests, t.2.2.1, t.2.2.2.1), refl))

-- the sizes of wide accesses

abbrev IsWideSize : ℕ → Type 0
IsWideSize bytes = (bytes ≡ 2) ⊎ (bytes ≡ 4) ⊎ (bytes ≡ 8)

pub wide_format : IsFormat 15 wide_fields wide_bytes IsWideAccess
unfolding wide_fields wide_bytes
wide_format =
    fields_format
    (kind_format then λ kind any.
    flag_format then λ smm any.
    byte_where is_wide_size then λ bytes good.
    where_format wide32 (is_wide_place bytes) then λ addr placed.
    last_field (λ value. record { kind = kind; bytes = bytes; smm = smm; addr = addr; value = value })
    (within_format wide64 0 (most_value (is_write kind) bytes)
    (let so : IsWideSize bytes = grind (arith, nat_tests) in grind (arith, so))))
    (λ access is. (
      (access.kind, tt) & (access.smm, tt) & (access.bytes, grind (arith, nat_tests, is.bytes))
          & (access.addr, grind (arith, nat_tests, is.wide, is.ends, is.bytes))
          & (access.value, grind (arith, is.fits)),
      refl,
    ))
    (λ t.
    let some : 1 ≤ 256 ^ t.2.2.0 = one-le-pow t.2.2.0 256 (omega arith) in
    (grind (arith, nat_tests, t.2.2.1.1, t.2.2.2.1.1, t.2.2.2.2.1), refl))
