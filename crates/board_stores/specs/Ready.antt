-- Accesses to memory that can be done.
use Rattle.std.specs.Prelude.{ℕ, List}
use Rattle.board_base.specs.declared.access.Access.{Access}
use Rattle.board_prelude.specs.{Part, IsBusAccess, is_write}
use Rattle.board_stores.specs.Targets.{IsHeld}

-- an access that is aligned, whose value fits, and whose target has its bytes
pub record IsReady (rom : List ℕ) (contents : List (List ℕ)) (access : Access) (answer : Part) : Type 0 where
  pub bus : IsBusAccess (is_write access.kind) access.addr access.width access.value
  pub held : IsHeld rom contents answer.target access.width
