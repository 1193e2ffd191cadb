-- The address map depends on the map writes alone.
use Rattle.std.specs.Prelude.{ℕ, ◌≡◌, Bool, List}
use Rattle.board_prelude.specs.{Kind, Area, Entry, Setup, IsCardList, byte_of, map_writes_of, MapRange, IsFlatMapOf}
use Rattle.board_prelude.specs.{IsSpan, SameMapBytes}

-- two histories have the same map bytes, the same spans and the same flat map
pub record SameMap (setup : Setup) (history other : List Entry) : Type 0 where
  pub map_bytes : SameMapBytes setup (byte_of setup history) (byte_of setup other)
  pub spans :
      (addr : ℕ) (kind : Kind) (smm : Bool) (lo hi : ℕ) (area : Area) →
      IsSpan setup (byte_of setup history) addr kind smm lo hi area →
      IsSpan setup (byte_of setup other) addr kind smm lo hi area
  pub flat_map :
      (ranges : List MapRange) →
      IsFlatMapOf setup (byte_of setup history) ranges → IsFlatMapOf setup (byte_of setup other) ranges

abbrev pub MapWritesDecideMap : Type 0
MapWritesDecideMap =
    (setup : Setup) (history other : List Entry) → IsCardList setup.cards →
    map_writes_of setup history ≡ map_writes_of setup other → SameMap setup history other
