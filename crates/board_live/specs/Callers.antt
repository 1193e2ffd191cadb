-- A caller, and what it knows. Histories and map writes have the newest first.
use Rattle.std.specs.Prelude.{ℕ, ◌≡◌, ◌<◌, ◌≤◌, List, length, map, reverse, All, Some}
use Rattle.board_prelude.specs.{Any, range_with_len, Entry, MapChange, Setup, entries_by, map_writes_of}
use Rattle.bus_turn.specs.Passes.{opened_of as opened_by, part_of, seen_of as seen_in}
use Rattle.bus_turn.specs.Turns.{IsOf}
use Rattle.board_core.specs.Kept.{Standing}
use Rattle.board_core.specs.declared.steps.Steps.{Ghosts}
use Rattle.board_live.specs.declared.cpu.Cpu.{Cpu}
use Rattle.board_live.specs.declared.shared.Origin.{Origin}
use Rattle.board_live.specs.declared.shared.Shared.{Shared}
use Rattle.board_live.specs.declared.live.Live.{Live}
use Rattle.board_live.specs.Known.{Extends, known_after}
use Rattle.board_live.specs.Passes.{SharedPass, setup_in, opened_in}

module _ {B : Type 0} {steps : Ghosts B} where
  -- the setup of the board
  abbrev pub setup_of : Cpu B steps → Setup
  setup_of cpu = setup_in cpu.pass

  -- the shared history as the caller has seen it
  abbrev pub seen_of : Cpu B steps → List Entry
  seen_of cpu = reverse (seen_in cpu.pass)

  -- the caller's own entries
  abbrev pub mine_of : Cpu B steps → List Entry
  mine_of cpu = entries_by cpu.number (seen_of cpu)

  -- the longest list of map writes that the caller's looks gave or that it learnt
  abbrev pub known_of : Cpu B steps → List MapChange
  known_of cpu = known_after (setup_of cpu) (opened_in cpu.pass) cpu.viewer.front.seen.log

  -- a caller of this shared board
  abbrev pub IsCallerOf : Live B steps → Cpu B steps → Type 0
  IsCallerOf live cpu = IsOf live.turn cpu.pass

  -- the caller is the same as before, whatever it knows
  pub record IsSameCaller (before now : Cpu B steps) : Type 0 where
    pub number : now.number ≡ before.number
    pub opened : opened_by now.pass ≡ opened_by before.pass
    pub part : part_of now.pass ≡ part_of before.pass

  -- a caller of a board that was just opened
  pub record IsNew (board : Standing) (cpu : Cpu B steps) : Type 0 where
    pub setup : setup_of cpu ≡ board.setup
    pub seen : seen_of cpu ≡ board.entries
    pub known : known_of cpu ≡ map_writes_of board.setup board.entries

  -- a caller that has seen what the board of a pass was opened with
  pub record IsNewOf (pass : SharedPass (Shared B steps)) (cpu : Cpu B steps) : Type 0 where
    pub part : part_of cpu.pass ≡ part_of pass
    pub seen : seen_of cpu ≡ opened_in pass
    pub known : known_of cpu ≡ map_writes_of (setup_in pass) (opened_in pass)

  -- these are all callers of a shared board, each once
  pub record AreAllOf (live : Live B steps) (cpus : List (Cpu B steps)) : Type 0 where
    pub opened : Origin
    pub own : All (IsCallerOf live) cpus
    pub same : All (λ cpu. part_of cpu.pass ≡ Some opened) cpus
    pub count : length cpus ≡ opened.callers
    pub some : 1 ≤ length cpus
    pub each : (number : ℕ) → number < length cpus → Any (λ cpu. cpu.number ≡ number) cpus

  -- the callers of a board that was just opened, in the order of their numbers
  pub record AreOpened (board : Standing) (callers : ℕ) (live : Live B steps) (cpus : List (Cpu B steps)) : Type 0 where
    pub all : AreAllOf live cpus
    pub numbers : map (λ cpu. cpu.number) cpus ≡ range_with_len 0 callers
    pub new : All (IsNew board) cpus

  -- a board that was closed, by one of its callers: it has all that the caller has seen and knows
  pub record ClosesBoard (board : Standing) (cpu : Cpu B steps) : Type 0 where
    pub setup : setup_of cpu ≡ board.setup
    pub begins : Extends (seen_of cpu) board.entries
    pub mine : entries_by cpu.number board.entries ≡ mine_of cpu
    pub meets : Extends (known_of cpu) (map_writes_of board.setup board.entries)
