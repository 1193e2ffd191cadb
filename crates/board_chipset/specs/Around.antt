-- The state of a chipset in three: what stands before the bytes of the DRAM, these, and what stands after them.
use Rattle.std.specs.Prelude.{ℕ, ◌++◌, List}
use Rattle.pci_bars.specs.State.{contents_bytes}
use Rattle.board_devices.specs.State.{devices_bytes}
use Rattle.board_chipset.specs.Chipset.{Running}
use Rattle.board_chipset.specs.ChipsetState.{head_bytes, registers_bytes}

abbrev pub before_dram : Running → List ℕ
before_dram chipset = head_bytes chipset.setup ++ registers_bytes chipset.state.registers

abbrev pub after_dram : Running → List ℕ
after_dram chipset =
    contents_bytes chipset.state.stores.contents ++ devices_bytes chipset.setup.disk chipset.state.devices
