-- The list of what was published: the map that was opened, and the changes since, the oldest first.
use Rattle.std.specs.Prelude.{ℕ, ◌≡◌, ◌+◌, nat_lt, Bool, if◌then◌else◌, List, [], ◌∷◌, ◌++◌, length, flat_map, reverse}
use Rattle.board_prelude.specs.{Kind, Look, MapChange, entry_limit, Setup, Bytes, IsSpan}
use Rattle.addr_decode.specs.MapRegs.{StandsFor}
use Rattle.map_builder.specs.Map.{Mapped}
use Rattle.map_publish.specs.declared.mark.Mark.{Mark}
use Rattle.map_publish.specs.declared.mark.Mark.TheVariants.{Opened, Changed}
use Rattle.map_publish.specs.Changes.{bytes_after, IsMapAfter}

-- what stands for the opened map of a list that does not begin with one
abbrev pub no_map : Mapped
no_map = record {
  regs = record { drb = []; pam = []; singles = []; cards = [] };
  ranges = [];
  version = 0;
  changed = [];
}

abbrev pub opened_in : Mark → Mapped
opened_in (Opened map) = map
opened_in (Changed change) = no_map

-- the map that was opened, which is the first entry
abbrev pub opened_of : List Mark → Mapped
opened_of [] = no_map
opened_of (first ∷ later) = opened_in first

abbrev pub changes_in : Mark → List MapChange
changes_in (Opened map) = []
changes_in (Changed change) = change ∷ []

-- the changes since, the newest first
abbrev pub changes_of : List Mark → List MapChange
changes_of log = reverse (flat_map changes_in log)

-- the opened map is this one after the changes
abbrev pub IsMapOfLog : List Mark → Mapped → Type 0
IsMapOfLog log now = IsMapAfter (opened_of log) (changes_of log) now

-- the version of the opened map, and one for each change
abbrev pub version_after : List Mark → ℕ
version_after log = (opened_of log).version + length (changes_of log)

-- the list with a change at its end, as long as the version of its map can rise
abbrev pub with_change : List Mark → MapChange → List Mark
with_change log change = if nat_lt (version_after log) entry_limit then log ++ Changed change ∷ [] else log

-- a look shows the opened map after the changes: its version, and the span of the registers
pub record IsLookIn (log : List Mark) (addr : ℕ) (kind : Kind) (smm : Bool) (look : Look) : Type 0 where
  pub version : look.version ≡ version_after log
  pub span :
      (setup : Setup) (bytes : Bytes) → StandsFor setup bytes (opened_of log).regs →
      IsSpan setup (bytes_after setup (changes_of log) bytes) addr kind smm look.lo look.hi look.area
