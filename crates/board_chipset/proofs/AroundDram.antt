-- The state of a chipset in three, and what is sound of it.
use Rattle.std.proofs.Common.{◌≡◌, ◌++◌, append_assoc}
use Rattle.dram_store.specs.State.{dram_bytes}
use Rattle.board_chipset.specs.Around.{before_dram, after_dram}
use Rattle.board_chipset.specs.Chipset.{Running}
use Rattle.board_chipset.specs.ChipsetState.{stores_bytes, state_bytes, chipset_bytes}

pub between : (chipset : Running) →
    chipset_bytes chipset ≡ before_dram chipset ++ (dram_bytes chipset.state.stores.dram ++ after_dram chipset)
unfolding chipset_bytes state_bytes stores_bytes
between chipset = simp append_assoc
