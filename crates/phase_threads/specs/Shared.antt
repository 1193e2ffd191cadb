-- The board that the workers of a run share. It records no history.
use Rattle.board_core.specs.Kept.{Standing}
use Rattle.board_core.specs.declared.steps.Steps.{Ghosts}
use Rattle.board_live.specs.declared.cpu.Cpu.{Cpu}
use Rattle.board_live.specs.declared.live.Live.{Live}

abbrev pub kind : Ghosts Standing
kind = record { standing = λ board. board }

abbrev pub TheLive : Type 0
TheLive = Live Standing kind

abbrev pub TheCpu : Type 0
TheCpu = Cpu Standing kind
