-- The memory map as records of numbers.
use Rattle.std.specs.Prelude.{ℕ, ◌≡◌, ◌%◌, ◌++◌, List, length, map, take, drop}
use Rattle.board_prelude.specs.{Area, Bytes, Entry, byte_of, version_of, MapRange, IsFlatMapOf}
use Rattle.map_builder.specs.declared.range.Changed.{Changed}
use Rattle.board_chipset.specs.Chipset.{Running, IsLeftBy}
use Rattle.board_chipset.specs.Versions.{version_count, AreLastChanged}
use Rattle.board_chipset.specs.Held.{HoldsBytes, HoldsRegisters}
use Rattle.machine_records.specs.declared.map.AreaRecord.{AreaRecord}
use Rattle.machine_records.specs.declared.map.RangeRecord.{RangeRecord}
use Rattle.machine_records.specs.declared.map.WindowRecord.{WindowRecord}
use Rattle.machine_records.specs.Replies.{area_said}

-- ---- one range, one window

-- an area has the numbers that it has as a part of a reply
abbrev pub short_area : Area → AreaRecord
short_area area = record {
  target = (area_said area).target;
  unit = (area_said area).unit;
  base = (area_said area).base;
  reserved = 0;
}

-- first and last address, and the six areas: of a fetch, a read and a write outside SMM, and then of these in SMM
abbrev pub range_said : MapRange → RangeRecord
range_said range = record { lo = range.lo; hi = range.hi; areas = map short_area range.areas }

abbrev pub window_said : Changed → WindowRecord
window_said window = record { lo = window.lo; hi = window.hi }

-- ---- into a list of some room

-- what is told stands in front, as much of it as there is room for; past it the list is as before
abbrev pub filled : {A : Type 0} → (told before : List A) → List A
filled told before = take (length before) told ++ drop (length told) before

-- the ranges of the flat map are told, and how many they are: that of the register bytes which the chipset holds, some
-- and each history's that left it so
pub record AreRangesOf (chipset : Running) (count : ℕ) (before after : List RangeRecord) : Type 0 where
  pub ranges : List MapRange
  pub some : (bytes : Bytes) × HoldsRegisters chipset bytes
  pub held : (bytes : Bytes) → HoldsBytes chipset bytes → IsFlatMapOf chipset.setup bytes ranges
  pub flat : (history : List Entry) → IsLeftBy chipset history →
      IsFlatMapOf chipset.setup (byte_of chipset.setup history) ranges
  pub count_is : count ≡ length ranges
  pub told : after ≡ filled (map range_said ranges) before

-- the windows that the map keeps of its last change are told, and how many they are
pub record AreWindowsOf (chipset : Running) (count : ℕ) (before after : List WindowRecord) : Type 0 where
  pub windows : List Changed
  pub held : windows ≡ chipset.state.registers.map.changed
  pub changed : (history : List Entry) → IsLeftBy chipset history → AreLastChanged chipset.setup history windows
  pub count_is : count ≡ length windows
  pub told : after ≡ filled (map window_said windows) before

-- the version that the map has: after a history how many changes it made, modulo 2^32
pub record IsVersionSaid (chipset : Running) (version : ℕ) : Type 0 where
  pub held : version ≡ chipset.state.registers.map.version
  pub left : (history : List Entry) → IsLeftBy chipset history → version ≡ version_of chipset.setup history % version_count
