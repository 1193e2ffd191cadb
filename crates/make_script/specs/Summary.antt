-- The summary of a history: thirteen lines with a number each.
use Rattle.std.specs.Prelude.{ℕ, ◌++◌, Bool, true, false, List, [], ◌∷◌, length, filter, is_some, codes, decimal}
use Rattle.board_prelude.specs.{list_any, Target, Dram, Shadow, Smram, Rom, Card, Device, Config, Abort, Part, Reply}
use Rattle.board_prelude.specs.{Bus, Saw, Entry, Setup, version_of, parts_list}
use Rattle.board_spec.specs.declared.event.Reply.TheVariants.{Parts as InParts}
use Rattle.script_spec.specs.Lines.{text_of_lines}

-- ---- kinds of targets

abbrev pub is_dram : Target → Bool
is_dram (Dram row) = true
is_dram _ = false

abbrev pub is_shadow : Target → Bool
is_shadow (Shadow row) = true
is_shadow _ = false

abbrev pub is_smram : Target → Bool
is_smram Smram = true
is_smram _ = false

abbrev pub is_rom : Target → Bool
is_rom (Rom off) = true
is_rom _ = false

abbrev pub is_card : Target → Bool
is_card (Card dev base off) = true
is_card _ = false

abbrev pub is_config : Target → Bool
is_config (Config reg) = true
is_config _ = false

-- the devices, the wires among them, and the vectors of interrupts
abbrev pub is_device : Target → Bool
is_device (Device dev) = true
is_device _ = false

abbrev pub is_abort : Target → Bool
is_abort Abort = true
is_abort _ = false

-- ---- kinds of entries

-- what answered and what denied: one of an access, one for each part of a wide access, and none of a look
abbrev pub parts_in : Reply → List Part
parts_in (Bus value target denial) = record { target = target; denial = denial } ∷ []
parts_in (InParts parts value) = parts_list parts
parts_in (Saw look) = []

-- a target of this kind answered. A wide access counts once under each kind that answered a part of it
abbrev pub answers : (is_kind : Target → Bool) → Entry → Bool
answers is_kind entry = list_any (λ part. is_kind part.target) (parts_in entry.reply)

-- there is a denial, be it one that names no register
abbrev pub is_denied : Entry → Bool
is_denied entry = list_any (λ part. is_some part.denial) (parts_in entry.reply)

abbrev pub is_look_reply : Reply → Bool
is_look_reply (Saw look) = true
is_look_reply _ = false

abbrev pub is_look : Entry → Bool
is_look entry = is_look_reply entry.reply

-- ---- the lines

abbrev pub count_where : (Entry → Bool) → List Entry → ℕ
count_where test history = length (filter test history)

-- the lines of the entries, by what answered them and what denied them
unfoldable pub entry_lines : (history : List Entry) → List (List ℕ)
entry_lines history =
    (codes "entries " ++ decimal (length history))
    ∷ (codes "dram " ++ decimal (count_where (answers is_dram) history))
    ∷ (codes "shadow " ++ decimal (count_where (answers is_shadow) history))
    ∷ (codes "smram " ++ decimal (count_where (answers is_smram) history))
    ∷ (codes "rom " ++ decimal (count_where (answers is_rom) history))
    ∷ (codes "card " ++ decimal (count_where (answers is_card) history))
    ∷ (codes "config " ++ decimal (count_where (answers is_config) history))
    ∷ (codes "device " ++ decimal (count_where (answers is_device) history))
    ∷ (codes "abort " ++ decimal (count_where (answers is_abort) history))
    ∷ (codes "denied " ++ decimal (count_where is_denied history))
    ∷ (codes "looks " ++ decimal (count_where is_look history))
    ∷ []

-- the lines of the map
unfoldable pub map_lines : (writes ranges : ℕ) → List (List ℕ)
map_lines writes ranges = (codes "mapwrites " ++ decimal writes) ∷ (codes "ranges " ++ decimal ranges) ∷ []

-- the summary of a history whose flat map has so many ranges
unfoldable pub summary_of : Setup → (history : List Entry) → (ranges : ℕ) → List ℕ
summary_of setup history ranges =
    text_of_lines (entry_lines history ++ map_lines (version_of setup history) ranges)
