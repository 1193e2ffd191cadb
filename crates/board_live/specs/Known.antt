-- Histories and map writes of a shared board, the newest first.
use Rattle.std.specs.Prelude.{ℕ, ◌≡◌, ◌-◌, ◌<◌, ◌≤◌, List, ◌++◌, length, drop, All}
use Rattle.board_prelude.specs.{Entry, MapChange, most_statements, Setup, entries_by, map_writes_of}
use Rattle.map_builder.specs.Map.{Mapped}
use Rattle.map_publish.specs.declared.mark.Mark.{Mark}
use Rattle.map_publish.specs.Lists.{changes_of}
use Rattle.map_publish.specs.Laws.{IsMapOfWrites}

-- a list begins with another: it has more, which is newer
abbrev pub Extends : {E : Type 0} → (shorter longer : List E) → Type 0
Extends {E} shorter longer = (more : List E) × (longer ≡ more ++ shorter)

-- the entries that a history had when there were so many
abbrev pub oldest : ℕ → List Entry → List Entry
oldest count history = drop (length history - count) history

-- the map writes of the opened history, and those that were published since
abbrev pub known_after : Setup → List Entry → List Mark → List MapChange
known_after setup opened log = changes_of log ++ map_writes_of setup opened

-- what was published are the map writes of the history
abbrev pub ArePublished : Setup → ℕ → List Entry → List Mark → Type 0
ArePublished setup opened history log = map_writes_of setup history ≡ known_after setup (oldest opened history) log

-- a map is that of the opened history
abbrev pub IsMapOpened : Setup → List Entry → Mapped → Type 0
IsMapOpened setup opened map = IsMapOfWrites setup (map_writes_of setup opened) map

-- the most entries of a caller
abbrev pub most_each : ℕ
most_each = most_statements

-- the entries are those of so many callers, 1 to 8, and of none too many
pub record AreFew (callers : ℕ) (history : List Entry) : Type 0 where
  pub some : 1 ≤ callers
  pub most : callers ≤ 8
  pub actors : All (λ entry. entry.actor < callers) history
  pub each : (actor : ℕ) → length (entries_by actor history) ≤ most_each
