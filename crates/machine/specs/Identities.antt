-- What cards say that they are, as bytes: how many say something, and of each its device number and its fields.
use Rattle.std.specs.Prelude.{ℕ, zero, suc, ◌^◌, ◌<◌, ◌≤◌, ◌++◌, List, [], ◌∷◌, length, flat_map, All}
use Rattle.std.specs.Int.{w8, w16, w32, to_le_bytes}
use Rattle.byte_fields.specs.Fields.{Reading, gives, ◌>>=◌, within}
use Rattle.machine.specs.declared.identity.FittedIdentity.{FittedIdentity}

-- ---- one card

pub record IsIdentity (card : FittedIdentity) : Type 0 where
  pub dev : card.dev < 2 ^ 8
  pub vendor_id : card.identity.vendor_id < 2 ^ 16
  pub device_id : card.identity.device_id < 2 ^ 16
  pub revision_id : card.identity.revision_id < 2 ^ 8
  pub class_code : card.identity.class_code < 2 ^ 32
  pub subsystem_vendor_id : card.identity.subsystem_vendor_id < 2 ^ 16
  pub subsystem_id : card.identity.subsystem_id < 2 ^ 16
  pub interrupt_pin : card.identity.interrupt_pin < 2 ^ 8

unfoldable pub first_bytes : FittedIdentity → List ℕ
first_bytes card =
    card.dev
    ∷ (to_le_bytes w16 card.identity.vendor_id
    ++ (to_le_bytes w16 card.identity.device_id ++ card.identity.revision_id ∷ []))

unfoldable pub last_bytes : FittedIdentity → List ℕ
last_bytes card =
    to_le_bytes w32 card.identity.class_code
    ++ (to_le_bytes w16 card.identity.subsystem_vendor_id
    ++ (to_le_bytes w16 card.identity.subsystem_id ++ card.identity.interrupt_pin ∷ []))

abbrev pub identity_bytes : FittedIdentity → List ℕ
identity_bytes card = first_bytes card ++ last_bytes card

unfoldable pub identity_fields : Reading FittedIdentity
identity_fields = do
  dev ← within w8 0 255
  vendor_id ← within w16 0 65_535
  device_id ← within w16 0 65_535
  revision_id ← within w8 0 255
  class_code ← within w32 0 4_294_967_295
  subsystem_vendor_id ← within w16 0 65_535
  subsystem_id ← within w16 0 65_535
  interrupt_pin ← within w8 0 255
  gives (record {
    dev = dev;
    identity = record {
      vendor_id = vendor_id;
      device_id = device_id;
      revision_id = revision_id;
      class_code = class_code;
      subsystem_vendor_id = subsystem_vendor_id;
      subsystem_id = subsystem_id;
      interrupt_pin = interrupt_pin;
    };
  })

-- ---- all cards that say something

unfoldable pub some_identities : Unit {0} → (count : ℕ) → Reading (List FittedIdentity)
some_identities before zero = gives []
some_identities before (suc count) = do
  card ← identity_fields
  later ← some_identities before count
  gives (card ∷ later)

unfoldable pub identities_fields : Reading (List FittedIdentity)
identities_fields = do
  count ← within w8 0 8
  some_identities tt count

abbrev pub identities_bytes : List FittedIdentity → List ℕ
identities_bytes cards = length cards ∷ flat_map identity_bytes cards

-- a board has at most eight cards
pub record AreIdentities (cards : List FittedIdentity) : Type 0 where
  pub few : length cards ≤ 8
  pub each : All IsIdentity cards
