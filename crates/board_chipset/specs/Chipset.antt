-- What contracts see of a chipset. Its history is not kept: it is whatever history leaves a board as the chipset is.
use Rattle.std.specs.Prelude.{List}
use Rattle.board_prelude.specs.{Entry, Setup}
use Rattle.board_chipset.specs.declared.state.State.{State}
use Rattle.board_chipset.specs.Kept.{IsStateOf, IsSound}

pub record Running : Type 0 where
  pub setup : Setup
  pub state : State

-- the chipset is as this history, newest first, leaves a board of its setup
unfoldable pub IsLeftBy : Running → List Entry → Type 0
IsLeftBy chipset history = IsStateOf chipset.setup history chipset.state

-- its state is one that steps can go on from
abbrev pub IsRunning : Running → Type 0
IsRunning chipset = IsSound chipset.setup chipset.state
