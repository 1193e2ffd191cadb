-- Which cards some records say, none where a number of one names nothing; and what these say that they are.
use Rattle.std.specs.Prelude.{ℕ, ◌==◌, nat_le, Bool, ◌&&◌, if◌then◌else◌, List, [], ◌∷◌, take, Option, Some, None}
use Rattle.std.specs.Prelude.{option_map, option_and_then}
use Rattle.board_spec.specs.Setup.{Base, MemoryBase, IoBase, OutsideBase, FittedCard}
use Rattle.machine.specs.declared.identity.Identity.{Identity}
use Rattle.machine.specs.declared.identity.FittedIdentity.{FittedIdentity}
use Rattle.machine.specs.Header.{is_blank}
use Rattle.machine_records.specs.declared.card.BaseRecord.{BaseRecord}
use Rattle.machine_records.specs.declared.card.CardRecord.{CardRecord}
use Rattle.machine_records.specs.Numbers.{memory_base, io_base, outside_base, most_bases}

-- what each says, where each says something
abbrev pub all_said : {A B : Type 0} → (A → Option B) → List A → Option (List B)
all_said said [] = Some []
all_said said (first ∷ later) =
    option_and_then (λ it. option_map (λ others. it ∷ others) (all_said said later)) (said first)

unfoldable pub base_said : BaseRecord → Option Base
base_said said =
    if said.kind == memory_base then Some (MemoryBase said.bits) else
    if said.kind == io_base then Some (IoBase said.bits) else
    if said.kind == outside_base then Some (OutsideBase said.bits) else None

-- 2 to the power of this number of bytes; 0 is none
unfoldable pub rom_said : ℕ → Option ℕ
rom_said bits = if bits == 0 then None else Some bits

abbrev pub card_with : CardRecord → List Base → FittedCard
card_with said bases = record { dev = said.device; vga = said.vga == 1; bases = bases; rom = rom_said said.rom }

-- what is kept for later versions is 0, the flag of a VGA adapter 0 or 1, there are at most six bases, a class code has
-- three bytes, and a pin is INTA# to INTD#, or none is said
abbrev pub numbers_fit : CardRecord → Bool
numbers_fit said =
    (said.reserved == 0) && nat_le said.vga 1 && nat_le said.bases most_bases && nat_le said.class_code 0xFF_FFFF &&
    nat_le said.interrupt_pin 4

unfoldable pub card_said : CardRecord → Option FittedCard
card_said said =
    if numbers_fit said
    then option_map (card_with said) (all_said base_said (take said.bases said.base)) else None

abbrev pub cards_said : List CardRecord → Option (List FittedCard)
cards_said records = all_said card_said records

-- ---- what the cards say that they are

abbrev pub identity_said : CardRecord → Identity
identity_said said = record {
  vendor_id = said.vendor_id;
  device_id = said.device_id;
  revision_id = said.revision_id;
  class_code = said.class_code;
  subsystem_vendor_id = said.subsystem_vendor_id;
  subsystem_id = said.subsystem_id;
  interrupt_pin = said.interrupt_pin;
}

-- of the cards that say something
abbrev pub identities_said : List CardRecord → List FittedIdentity
identities_said [] = []
identities_said (said ∷ later) =
    if is_blank (identity_said said) then identities_said later
    else record { dev = said.device; identity = identity_said said } ∷ identities_said later
