-- The bytes of a card's configuration header that say what it is (PCI Local Bus 2.1, sections 6.2.1 and 6.2.4).
use Rattle.std.specs.Prelude.{ℕ, ◌+◌, ◌-◌, ◌==◌, ◌&&◌, nat_le, nat_lt, Bool, not, if◌then◌else◌, List, [], ◌∷◌}
use Rattle.board_prelude.specs.{byte}
use Rattle.machine.specs.declared.identity.Identity.{Identity}
use Rattle.machine.specs.declared.field.Field.{Field}

abbrev pub field_at : (first count value : ℕ) → Field
field_at first count value = record { first = first; count = count; value = value }

abbrev pub fields_of : Identity → List Field
fields_of identity =
    field_at 0x00 2 identity.vendor_id
    ∷ field_at 0x02 2 identity.device_id
    ∷ field_at 0x08 1 identity.revision_id
    ∷ field_at 0x09 3 identity.class_code
    ∷ field_at 0x2C 2 identity.subsystem_vendor_id
    ∷ field_at 0x2E 2 identity.subsystem_id
    ∷ field_at 0x3D 1 identity.interrupt_pin
    ∷ []

-- no field says anything
abbrev pub is_blank : Identity → Bool
is_blank identity =
    (identity.vendor_id == 0) && (identity.device_id == 0) && (identity.revision_id == 0) && (identity.class_code == 0)
    &&
    (identity.subsystem_vendor_id == 0) && (identity.subsystem_id == 0) && (identity.interrupt_pin == 0)

-- a field of 0 says nothing
abbrev pub says : Field → (off : ℕ) → Bool
says field off = nat_le field.first off && nat_lt off (field.first + field.count) && not (field.value == 0)

-- the byte at an offset: that of the field which says it, and else as it was
abbrev pub byte_said : List Field → (off old : ℕ) → ℕ
byte_said [] off old = old
byte_said (field ∷ later) off old =
    if says field off then byte field.value (off - field.first) else byte_said later off old

unfoldable pub identity_byte : Identity → (off old : ℕ) → ℕ
identity_byte identity off old = byte_said (fields_of identity) off old
