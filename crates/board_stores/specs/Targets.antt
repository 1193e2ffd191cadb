-- What an access reaches, which targets bytes are stored behind, and when an access to them lies within.
use Rattle.std.specs.Prelude.{ℕ, ◌+◌, ◌≤◌, List, length}
use Rattle.board_prelude.specs.{bytes_of, Width, Target, Dram, Shadow, Smram, Rom, Card, Abort, Part, Setup, Bytes}
use Rattle.board_prelude.specs.{area_of, denial_of, target_at}
use Rattle.board_base.specs.declared.access.Access.{Access}
use Rattle.pci_bars.specs.Contents.{LiesIn}

-- what an access to memory reaches by the register bytes, and what denies it
abbrev pub part_in : Setup → Bytes → Access → Part
part_in setup bytes access = record {
  target = target_at setup (area_of setup bytes access.addr access.kind access.smm) access.addr;
  denial = denial_of setup bytes access.addr access.kind access.smm;
}

-- an access to DRAM, to a base of a card within which it lies, or to nobody
abbrev pub IsStored : (contents : List (List ℕ)) → Target → Width → Type 0
IsStored contents (Dram row) width = Unit {0}
IsStored contents (Shadow row) width = Unit {0}
IsStored contents Smram width = Unit {0}
IsStored contents (Card dev base off) width = LiesIn contents dev base off width
IsStored contents Abort width = Unit {0}
IsStored contents _ width = ⊥

-- or to the ROM, within it
abbrev pub IsHeld : (rom : List ℕ) → (contents : List (List ℕ)) → Target → Width → Type 0
IsHeld rom contents (Rom off) width = off + bytes_of width ≤ length rom
IsHeld rom contents target width = IsStored contents target width
