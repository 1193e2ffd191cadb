-- That a map is another after changes has at most one proof, so that a type may keep it.
use Rattle.std.specs.Prelude.{ℕ, ◌+◌, List, [], ◌∷◌, All, Option, Some, None}
use Rattle.std.specs.Coded.{Unit-prop}
use Rattle.std.proofs.Props.{props}
use Rattle.board_prelude.specs.{Bytes, IsRight, MapChange, MapRange, NeighboursDiffer, Setup, Tiles}
use Rattle.pci_bars.specs.Cards.{HoldsRom}
use Rattle.map_builder.specs.Map.{Mapped}
use Rattle.map_publish.specs.Changes.{IsMapAfter}
use Rattle.map_publish.specs.declared.mark.Mark.{Mark}
use Rattle.map_publish.specs.Sights.{Sighted, IsSightOf}

-- what holds the register of an expansion ROM
pub HoldsRom-prop : (bytes : Bytes) (dev rom : ℕ) (size : Option ℕ) → IsProp (HoldsRom bytes dev rom size)
HoldsRom-prop bytes dev rom None = Unit-prop
HoldsRom-prop bytes dev rom (Some bits) = hlevel props

pub IsMapAfter-prop : (opened : Mapped) (changes : List MapChange) (now : Mapped)
    → IsProp (IsMapAfter opened changes now)
IsMapAfter-prop opened changes now = hlevel (props, HoldsRom-prop)

-- that ranges are a flat map has at most one proof, too
Tiles-prop : (from : ℕ) (ranges : List MapRange) → IsProp (Tiles from ranges)
Tiles-prop from [] = hlevel props
Tiles-prop from (range ∷ later) = let rest = Tiles-prop (range.hi + 1) later in hlevel (props, rest)

NeighboursDiffer-prop : (ranges : List MapRange) → IsProp (NeighboursDiffer ranges)
NeighboursDiffer-prop [] = Unit-prop
NeighboursDiffer-prop (range ∷ []) = hlevel (props, Unit-prop)
NeighboursDiffer-prop (range ∷ next ∷ later) = let rest = NeighboursDiffer-prop (next ∷ later) in hlevel (props, rest)

AreRight-prop : (setup : Setup) (bytes : Bytes) (ranges : List MapRange) → IsProp (All (IsRight setup bytes) ranges)
AreRight-prop setup bytes [] = hlevel (props, Unit-prop)
AreRight-prop setup bytes (range ∷ later) = let rest = AreRight-prop setup bytes later in hlevel (props, rest)

pub IsSightOf-prop : (log : List Mark) (sight : Sighted) → IsProp (IsSightOf log sight)
IsSightOf-prop log sight = hlevel (props, Tiles-prop, NeighboursDiffer-prop, AreRight-prop)
