-- What the laws say: each is proved on a function of `laws`.
use Rattle.std.specs.Prelude.{ℕ, ◌≡◌, Bool, List, ◌++◌, length}
use Rattle.board_prelude.specs.{Kind, Look, MapChange, Setup, IsSpan, registers_after}
use Rattle.addr_decode.specs.MapRegs.{StandsFor}
use Rattle.map_builder.specs.Map.{Mapped}
use Rattle.map_publish.specs.declared.mark.Mark.{Mark}
use Rattle.map_publish.specs.Lists.{opened_of, changes_of, IsLookIn}

-- a map is that of a board after so many map writes from reset on, the newest first
pub record IsMapOfWrites (setup : Setup) (writes : List MapChange) (map : Mapped) : Type 0 where
  pub stands : StandsFor setup (registers_after setup writes) map.regs
  pub version : map.version ≡ length writes

-- a look shows the map of a board after these map writes
pub record IsLookAfter (setup : Setup) (writes : List MapChange) (addr : ℕ) (kind : Kind) (smm : Bool)
    (look : Look) : Type 0 where
  pub version : look.version ≡ length writes
  pub span : IsSpan setup (registers_after setup writes) addr kind smm look.lo look.hi look.area

-- where the copies were opened with the map of a board after some map writes, a look shows it after these and the
-- published ones
abbrev pub LooksGoOn : Type 0
LooksGoOn =
    (setup : Setup) (earlier : List MapChange) (log : List Mark) (addr : ℕ) (kind : Kind) (smm : Bool) (look : Look) →
    IsMapOfWrites setup earlier (opened_of log) → IsLookIn log addr kind smm look →
    IsLookAfter setup (changes_of log ++ earlier) addr kind smm look
