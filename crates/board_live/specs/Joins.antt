-- What a pass has of a caller whose pass was joined into it.
use Rattle.std.specs.Prelude.{ℕ, ◌≡◌, List, ◌++◌, reverse}
use Rattle.board_prelude.specs.{Any, Entry, map_writes_of}
use Rattle.bus_turn.specs.Passes.{opened_of, seen_of as seen_in, joined_of}
use Rattle.bus_turn.specs.Views.{own_by}
use Rattle.board_core.specs.declared.steps.Steps.{Ghosts}
use Rattle.board_live.specs.declared.shared.Shared.{Shared}
use Rattle.board_live.specs.declared.cpu.Cpu.{Cpu}
use Rattle.board_live.specs.Known.{Extends}
use Rattle.board_live.specs.Passes.{SharedPass}
use Rattle.board_live.specs.Callers.{setup_of, seen_of, known_of}

module _ {B : Type 0} {steps : Ghosts B} where
  -- the caller's own entries, the oldest first, are those that the opened board had and these
  abbrev pub HasOwn : Cpu B steps → ℕ × List Entry → Type 0
  HasOwn cpu other =
      (other.0 ≡ cpu.number)
      × (own_by (λ (entry : Entry). entry.actor) cpu.number (opened_of cpu.pass) ++ other.1
      ≡ own_by (λ (entry : Entry). entry.actor) cpu.number (seen_in cpu.pass))

  -- the pass has all that the caller has seen and knows, and the caller's own entries
  pub record IsJoined (pass : SharedPass (Shared B steps)) (cpu : Cpu B steps) : Type 0 where
    pub begins : Extends (seen_of cpu) (reverse (seen_in pass))
    pub meets : Extends (known_of cpu) (map_writes_of (setup_of cpu) (reverse (seen_in pass)))
    pub own : Any (HasOwn cpu) (joined_of pass)
