-- The state of a map as bytes: its registers, its version, and the windows of the last change. The ranges are not in
-- them: registers have one flat map.
use Rattle.std.specs.Prelude.{ℕ, zero, suc, ◌≡◌, ◌<◌, ◌≤◌, ◌^◌, List, [], ◌∷◌, ◌++◌, length, All, flat_map, Result, Ok}
use Rattle.std.specs.Prelude.{IfOk}
use Rattle.std.specs.Int.{w8, w32, to_le_bytes}
use Rattle.board_spec.specs.Setup.{FittedCard}
use Rattle.byte_fields.specs.declared.fault.Bad.{Bad}
use Rattle.byte_fields.specs.Fields.{Reading, gives, ◌>>=◌, within, Took}
use Rattle.addr_decode.specs.declared.regs.MapRegs.{MapRegs}
use Rattle.addr_decode.specs.MapRegs.{MapBytes, map_bytes}
use Rattle.addr_decode.specs.State.{any_long, AreMapRegs, regs_bytes, regs_fields}
use Rattle.map_builder.specs.declared.range.Changed.{Changed}
use Rattle.map_builder.specs.Map.{Mapped, IsMapOf}

-- ---- the windows of the last change: how many, at most 64, and then the first and the last address of each

pub record IsWindow (window : Changed) : Type 0 where
  pub lo : window.lo < 2 ^ 32
  pub hi : window.hi < 2 ^ 32

pub record AreWindows (windows : List Changed) : Type 0 where
  pub count : length windows ≤ 64
  pub each : All IsWindow windows

abbrev pub window_bytes : Changed → List ℕ
window_bytes window = to_le_bytes w32 window.lo ++ to_le_bytes w32 window.hi

unfoldable pub window_fields : Reading Changed
window_fields = do
  lo ← any_long
  hi ← any_long
  gives (record { lo = lo; hi = hi })

abbrev pub windows_bytes : List Changed → List ℕ
windows_bytes windows = length windows ∷ flat_map window_bytes windows

unfoldable pub so_many_windows : (count : ℕ) → Reading (List Changed)
so_many_windows zero = gives []
so_many_windows (suc count) = do
  window ← window_fields
  later ← so_many_windows count
  gives (window ∷ later)

unfoldable pub windows_fields : Reading (List Changed)
windows_fields = do
  count ← within w8 0 64
  windows ← so_many_windows count
  gives windows

-- ---- the whole

-- the registers as the code keeps them
abbrev pub regs_of : MapBytes → MapRegs
regs_of regs = record {
  drb = regs.drb;
  pam = regs.pam;
  singles = regs.singles;
  cards = record { items = regs.cards };
}

-- a map without its ranges
abbrev pub bare : Mapped → Mapped
bare map = record map { ranges = [] }

-- what is saved of a map: registers of a board with these cards, and a version and windows as wide as their types say
pub record IsSaved (fitted : List FittedCard) (map : Mapped) : Type 0 where
  pub regs : AreMapRegs fitted (regs_of map.regs)
  pub version : map.version < 2 ^ 32
  pub changed : AreWindows map.changed

-- and the ranges are those of the registers
pub record IsMapped (fitted : List FittedCard) (map : Mapped) : Type 0 where
  pub saved : IsSaved fitted map
  pub whole : IsMapOf map.regs map.ranges

-- or there are none
pub record IsBare (fitted : List FittedCard) (map : Mapped) : Type 0 where
  pub saved : IsSaved fitted map
  pub ranges : map.ranges ≡ []

-- the ranges do not count
abbrev pub mapped_bytes : Mapped → List ℕ
mapped_bytes map = regs_bytes (regs_of map.regs) ++ (to_le_bytes w32 map.version ++ windows_bytes map.changed)

unfoldable pub mapped_fields : List FittedCard → Reading Mapped
mapped_fields fitted = do
  regs ← regs_fields fitted
  version ← any_long
  changed ← windows_fields
  gives (record { regs = map_bytes regs; ranges = []; version = version; changed = changed })

-- A map that was read is sound, and the bytes before begin with its own. Bytes that begin with those of a sound map
-- give that map, with its ranges. Where a field is bad, the bytes after begin with the first that is.
pub record LoadsMap (fitted : List FittedCard) (before after : List ℕ) (result : Result Mapped Bad) : Type 0 where
  pub loaded : IfOk result (λ map. IsMapped fitted map × (before ≡ mapped_bytes map ++ after))
  pub exact : (map : Mapped) (rest : List ℕ) → IsMapped fitted map → before ≡ mapped_bytes map ++ rest →
      (result ≡ Ok map) × (after ≡ rest)
  pub bad : Took bare result after (mapped_fields fitted before)

-- two maps of the same registers, version and windows are one map
abbrev pub SameMap : Type 0
SameMap =
    (left right : Mapped) → IsMapOf left.regs left.ranges → IsMapOf right.regs right.ranges → bare left ≡ bare right →
    left ≡ right
