-- A chipset with bytes that a caller keeps itself: those of the DRAM, of the disk as it was fitted, and of its sectors
-- as they stand. Its state can be saved without them, and they can be put in again.
use Rattle.std.specs.Prelude.{ℕ, Bool, if◌then◌else◌, List, [], replicate, length, Option, option_map, unwrap_or}
use Rattle.board_prelude.specs.{Setup}
use Rattle.board_devices.specs.Devices.{DevicesValue, with_sectors as devices_with_sectors, sectors_in}
use Rattle.board_devices.specs.State.{devices_bytes}
use Rattle.board_chipset.specs.Chipset.{Running}

-- ---- the bytes, none of a disk that is not there

abbrev pub dram_on : Running → List ℕ
dram_on chipset = chipset.state.stores.dram

abbrev pub fitted_on : Running → List ℕ
fitted_on chipset = unwrap_or chipset.setup.disk []

abbrev pub sectors_on : Running → List ℕ
sectors_on chipset = unwrap_or (sectors_in chipset.state.devices.disk) []

-- ---- others in their place

abbrev pub with_dram : List ℕ → Running → Running
with_dram bytes chipset = record chipset {
  state = record chipset.state { stores = record chipset.state.stores { dram = bytes } };
}

abbrev pub fitted_with : List ℕ → Setup → Setup
fitted_with bytes setup = record setup { disk = option_map {T = List ℕ} (λ _. bytes) setup.disk }

abbrev pub with_fitted : List ℕ → Running → Running
with_fitted bytes chipset = record chipset { setup = fitted_with bytes chipset.setup }

-- which sectors are bad stays
abbrev pub with_sectors : List ℕ → Running → Running
with_sectors bytes chipset = record chipset {
  state = record chipset.state { devices = devices_with_sectors bytes chipset.state.devices };
}

-- ---- left out: zeros stand in their place, of which a page takes a byte

abbrev pub zeros : List ℕ → List ℕ
zeros bytes = replicate (length bytes) 0

abbrev pub unless_left : (left : Bool) → List ℕ → List ℕ
unless_left left bytes = if left then zeros bytes else bytes

abbrev pub dram_left : (left : Bool) → Running → Running
dram_left left chipset = with_dram (unless_left left (dram_on chipset)) chipset

abbrev pub disk_left : (left : Bool) → Running → Running
disk_left left chipset =
    with_fitted (unless_left left (fitted_on chipset)) (with_sectors (unless_left left (sectors_on chipset)) chipset)

-- what the devices add to that state, over the disk as it was fitted
abbrev pub devices_left : (fitted : Option (List ℕ)) → DevicesValue → List ℕ
devices_left fitted devices =
    devices_bytes (option_map {T = List ℕ} (λ _. zeros (unwrap_or fitted [])) fitted)
    (devices_with_sectors (zeros (unwrap_or (sectors_in devices.disk) [])) devices)
