-- The state of a chipset is spelled and read back. What is read has no ranges of the map yet.
use Rattle.board_prelude.proofs.{nat_tests, Setup, FittedCard, IsSetup, w8, to_le_bytes}
use Rattle.std.proofs.Common.{◌≡◌, ℕ, ◌+◌, ◌*◌, ◌^◌, ◌<◌, List, ◌∷◌, [], length, is_some, refl, ap, arith}
use Rattle.std.specs.Int.{Width as Size, byte_len}
use Rattle.byte_fields.specs.Fields.{within, flag_byte}
use Rattle.byte_fields.proofs.Exactly.{exactly_format}
use Rattle.byte_fields.proofs.Formats.{IsFormat, format_as, fields_format, ◌then◌, ◌&◌, last_field}
use Rattle.byte_fields.proofs.Numbers.{Any, IsWide, within_format, any_byte, wide16, wide32}
use Rattle.addr_decode.proofs.AddressFormat.{address_format}
use Rattle.dram_store.proofs.StateFormats.{dram_format}
use Rattle.pci_bars.proofs.StateFormats.{contents_format}
use Rattle.config_regs.specs.State.{IsSouth}
use Rattle.config_regs.proofs.StateFormat.{south_format}
use Rattle.map_builder.specs.State.{IsBare}
use Rattle.map_builder.proofs.StateFormat.{mapped_format, most_mapped}
use Rattle.board_devices.proofs.StateFormat.{most_of, devices_format}
use Rattle.addr_decode.specs.AddressState.{IsAddress}
use Rattle.board_chipset.specs.declared.registers.Registers.{Registers}
use Rattle.board_chipset.specs.declared.state.State.{State}
use Rattle.board_chipset.specs.Chipset.{Running}
use Rattle.board_devices.specs.State.{AreDevices}
use Rattle.board_chipset.specs.ChipsetState.{state_mark, state_version, disk_size, size_bytes, head_bytes, size_fields}
use Rattle.board_chipset.specs.ChipsetState.{head_fields, registers_bytes, registers_fields, AreStores, stores_bytes}
use Rattle.board_chipset.specs.ChipsetState.{stores_fields, state_bytes, state_fields, chipset_bytes, chipset_fields}

-- ---- the head

-- a number that has one value
one_number : {size : Size} {limit : ℕ} → IsWide size limit → (value : ℕ) → value < limit → IsFormat (byte_len size)
    (within size value value) (to_le_bytes size) (λ n. n ≡ value)
one_number wide value fits =
    format_as _ _ _ (within_format wide value value fits) (omega arith) (λ n is. (omega arith, omega arith))
    (λ n good. omega (arith, good.0, good.1)) (λ n good. refl)

one_byte : (value : ℕ) → value < 2 ^ 8 → IsFormat 1 (within w8 value value) (λ n. n ∷ []) (λ n. n ≡ value)
one_byte value fits = grind (arith, nat_tests)

size_format : (setup : Setup) → IsSetup setup → IsFormat 12 (size_fields setup) (λ done. size_bytes setup) Any
unfolding size_fields size_bytes
size_format setup fits =
    fields_format
    (one_number wide16 setup.mib (omega (arith, fits.most_memory)) then λ mib good.
    one_byte (length setup.cards) (omega (arith, fits.cards.count)) then λ cards good.
    one_byte (flag_byte (is_some setup.disk)) (grind (arith, nat_tests)) then λ has_disk good.
    one_number wide32 (length setup.rom) (grind (arith, fits.rom)) then λ rom good.
    last_field (λ disk. tt) (one_number wide32 (disk_size setup) (grind (arith, nat_tests, fits.disk))))
    (λ done any. (
      (setup.mib, refl) & (length setup.cards, refl) & (flag_byte (is_some setup.disk), refl)
          & (length setup.rom, refl) & (disk_size setup, refl),
      refl,
    ))
    (λ t. (tt, rw (t.1, t.2.1, t.2.2.1, t.2.2.2.1, t.2.2.2.2.1) refl))

head_format : (setup : Setup) → IsSetup setup → IsFormat 22 (head_fields setup) (λ done. head_bytes setup) Any
unfolding head_fields head_bytes
head_format setup fits =
    fields_format
    (exactly_format state_mark then λ mark any.
    one_number wide16 state_version (omega arith) then λ version good.
    last_field (λ sizes. tt) (size_format setup fits))
    (λ done any. ((tt, tt) & (state_version, refl) & (tt, tt), refl))
    (λ t. (tt, rw (t.2.1) refl))

-- ---- the registers

pub record AreBareRegisters (cards : List FittedCard) (registers : Registers) : Type 0 where
  pub address : IsAddress registers.address
  pub control : registers.control < 256
  pub map : IsBare cards registers.map
  pub south : IsSouth registers.south

abbrev most_registers : List FittedCard → ℕ
most_registers cards = 4 + (1 + (most_mapped cards + 7))

registers_format : (cards : List FittedCard) →
    IsFormat (most_registers cards) (registers_fields cards) registers_bytes (AreBareRegisters cards)
unfolding registers_fields registers_bytes
registers_format cards =
    fields_format
    (address_format then λ address good.
    any_byte then λ control good.
    mapped_format cards then λ map good.
    last_field _ south_format)
    (λ r is. ((r.address, is.address) & (r.control, is.control) & (r.map, is.map) & (r.south, is.south), refl))
    (λ t. (record { address = t.1; control = t.2.1; map = t.2.2.1; south = t.2.2.2.1 }, refl))

-- ---- the bytes behind the addresses

abbrev most_stores : Setup → ℕ
most_stores setup = 2 * (setup.mib * 0x10_0000) + 0x8000_0000

stores_format : (setup : Setup) → IsSetup setup →
    IsFormat (most_stores setup) (stores_fields setup) stores_bytes (AreStores setup)
unfolding stores_fields stores_bytes
stores_format setup fits =
    fields_format
    (dram_format setup.mib then λ dram good.
    last_field _ (contents_format setup.cards fits.cards.each))
    (λ s is. ((s.dram, is.dram) & (s.contents, is.contents), refl))
    (λ t. (record { dram = t.1; contents = t.2.1 }, refl))

-- ---- all that a chipset holds

pub record IsBareState (setup : Setup) (state : State) : Type 0 where
  pub registers : AreBareRegisters setup.cards state.registers
  pub stores : AreStores setup state.stores
  pub devices : AreDevices setup.disk state.devices

abbrev most_state : Setup → ℕ
most_state setup = most_registers setup.cards + (most_stores setup + most_of setup.disk)

state_format : (setup : Setup) → IsSetup setup →
    IsFormat (most_state setup) (state_fields setup) (state_bytes setup.disk) (IsBareState setup)
unfolding state_fields state_bytes
state_format setup fits =
    fields_format
    (registers_format setup.cards then λ registers good.
    stores_format setup fits then λ stores good.
    last_field _ (devices_format setup.disk fits.disk))
    (λ s is. ((s.registers, is.registers) & (s.stores, is.stores) & (s.devices, is.devices), refl))
    (λ t. (record { registers = t.1; stores = t.2.1; devices = t.2.2.1 }, refl))

-- ---- the chipset

pub record IsBareChipset (setup : Setup) (chipset : Running) : Type 0 where
  pub same : chipset.setup ≡ setup
  pub state : IsBareState setup chipset.state

abbrev pub most_chipset : Setup → ℕ
most_chipset setup = 22 + most_state setup

pub chipset_format : (setup : Setup) → IsSetup setup →
    IsFormat (most_chipset setup) (chipset_fields setup) chipset_bytes (IsBareChipset setup)
unfolding chipset_fields chipset_bytes
chipset_format setup fits =
    fields_format
    (head_format setup fits then λ head any.
    last_field _ (state_format setup fits))
    (λ c is. ((tt, tt) & (c.state, is.state), ap (λ (setup : Setup). record c { setup = setup }) is.same))
    (λ t. (record { same = refl; state = t.2.1 }, refl))
