-- Which entries change registers in configuration space.
use Rattle.std.specs.Prelude.{◌≡◌, ◌+◌, ◌<◌, ◌≤◌, false, List, ◌∷◌}
use Rattle.board_prelude.specs.{Reg, Target, Config, Reply, Bus, Entry, Setup, is_hard_reset, byte_of, IsNext}

-- an access to a register can reach this one too: it lies in the same function, at most three bytes after
pub record IsNear (named reg : Reg) : Type 0 where
  pub dev : named.dev ≡ reg.dev
  pub fun : named.fun ≡ reg.fun
  pub from : named.off ≤ reg.off
  pub below : reg.off < named.off + 4

abbrev pub TargetReaches : Target → Reg → Type 0
TargetReaches (Config named) reg = IsNear named reg
TargetReaches _ reg = ⊥

-- the reply names a register from which an access reaches this one
abbrev pub ReachesNear : Reply → Reg → Type 0
ReachesNear (Bus value target denial) reg = TargetReaches target reg
ReachesNear _ reg = ⊥

-- without a hard reset no other entry changes a register
abbrev pub RegistersStay : Type 0
RegistersStay =
    (setup : Setup) (before : List Entry) (entry : Entry) (reg : Reg) → IsNext setup before entry →
    is_hard_reset before entry.event ≡ false → ¬ ReachesNear entry.reply reg →
    byte_of setup (entry ∷ before) reg ≡ byte_of setup before reg
