-- What `blame` puts: the address map with the entries of the history that made it.
use Rattle.std.specs.Prelude.{ℕ, ◌≡◌, ◌+◌, ◌++◌, nat_lt, if◌then◌else◌, List, [], ◌∷◌, length, flat_map, codes, decimal}
use Rattle.board_prelude.specs.{Entry, Setup, IsReplayOf, map_writes_of, version_of, range_text, space, line_feed}
use Rattle.script_spec.specs.ScriptText.{Script as Said}
use Rattle.script_spec.specs.ScriptRange.{statements_in}
use Rattle.map_blame.specs.declared.blamed.Blamed.{Blamed}
use Rattle.map_blame.specs.Report.{map_range_of, IsBlame}

-- the number of the entry that brought the map to a version: before it the version was lower. Entries count from 1, and
-- the version that the map begins with, 0, has 0
unfoldable pub entry_of_version : Setup → List Entry → (version : ℕ) → ℕ
entry_of_version setup [] version = 0
entry_of_version setup (entry ∷ before) version =
    if nat_lt (version_of setup before) version then length before + 1 else entry_of_version setup before version

-- a version of the map, and its entry
abbrev pub version_text : Setup → List Entry → (version : ℕ) → List ℕ
version_text setup history version =
    decimal version ++ space ∷ decimal (entry_of_version setup history version) ++ line_feed ∷ []

-- a range as in the map, and the version from which on it stands
abbrev pub blamed_text : Setup → List Entry → Blamed → List ℕ
blamed_text setup history blamed =
    range_text (map_range_of blamed) ++ space ∷ version_text setup history blamed.since

-- a map write that is kept: its number is the version that it made
abbrev pub keep_text : Setup → List Entry → (version : ℕ) → List ℕ
keep_text setup history version = codes "keep " ++ version_text setup history version

-- the address map after the replay of a script, with the map write since which each range stands, and then the map
-- writes on which the map rests
pub record IsBlameText (setup : Setup) (script : Said) (text : List ℕ) : Type 0 where
  pub history : List Entry
  pub ranges : List Blamed
  pub keep : List ℕ
  pub replay : IsReplayOf setup (statements_in script) history
  pub blame : IsBlame setup (map_writes_of setup history) ranges keep
  pub lines : text ≡ flat_map (blamed_text setup history) ranges ++ flat_map (keep_text setup history) keep
