-- The state of a map is spelled and read back, and gives the map with its ranges.
use Rattle.std.proofs.Common.{◌≡◌, ℕ, ◌+◌, List, [], ◌∷◌, length, Result, Ok, Err, IfOk, refl, ap, subst, ◌∙◌, arith}
use Rattle.std.proofs.Common.{flat_map, ◌↔◌}
use Rattle.std.proofs.lemmas.List.Elements.{All-from_recursion}
use Rattle.board_prelude.proofs.{AllByRecursion, recursion_from_All, FittedCard, MapRange, OneFlatMap}
use Rattle.byte_fields.specs.declared.fault.Bad.{Bad}
use Rattle.byte_fields.specs.Fields.{AreBytes, Took}
use Rattle.byte_fields.specs.Loads.{OneSpelling}
use Rattle.byte_fields.proofs.Formats.{IsFormat, format_as, many_format, AreGood, AreMany, fields_format, ◌then◌, ◌&◌}
use Rattle.byte_fields.proofs.Formats.{last_field}
use Rattle.byte_fields.proofs.Loaded.{one_spelling, loads}
use Rattle.byte_fields.proofs.Loops.{IsLoop}
use Rattle.byte_fields.proofs.Numbers.{any_number, wide32, byte_to}
use Rattle.addr_decode.specs.MapRegs.{StandsFor}
use Rattle.addr_decode.proofs.StateFormat.{regs_format, regs_size}
use Rattle.map_builder.specs.declared.range.Changed.{Changed}
use Rattle.map_builder.specs.Map.{Mapped, IsMapOf}
use Rattle.map_builder.specs.State.{IsWindow, AreWindows, window_bytes, window_fields, windows_bytes, so_many_windows}
use Rattle.map_builder.specs.State.{windows_fields, regs_of, bare, IsMapped, IsBare, mapped_bytes, mapped_fields}
use Rattle.map_builder.specs.State.{LoadsMap, SameMap}

-- ---- windows

window_format : IsFormat 8 window_fields window_bytes IsWindow
unfolding window_fields
window_format =
    fields_format (any_number wide32 (omega arith) then λ lo good. last_field _ (any_number wide32 (omega arith)))
    (λ w is. ((w.lo, is.lo) & (w.hi, is.hi), refl))
    (λ t. (record { lo = t.1; hi = t.2.1 }, refl))

abbrev pub past_window : Unit {0} → Changed → Unit {0}
past_window none window = none

pub windows_loop :
    IsLoop (λ (none : Unit {0}). window_fields) past_window (λ (none : Unit {0}) (count : ℕ). so_many_windows count)
unfolding so_many_windows
windows_loop = record { none = λ s bytes. refl; more = λ s n bytes. refl }

abbrev IsOne : Unit {0} → Changed → Type 0
IsOne none window = IsWindow window

good_windows : (windows : List Changed) → AllByRecursion IsWindow windows ↔ AreGood past_window IsOne tt windows
good_windows [] = ((λ all. tt), (λ good. tt))
good_windows (window ∷ later) =
    let rest = good_windows later in ((λ all. (all.0, rest.0 all.1)), (λ good. (good.0, rest.1 good.1)))

windows_format : IsFormat 513 windows_fields windows_bytes AreWindows
unfolding windows_fields
windows_format =
    fields_format (byte_to 64 (omega arith) then λ count few.
    last_field _
    (format_as 512 (flat_map window_bytes) (AreMany past_window IsOne tt count)
    (many_format windows_loop (λ s. window_format) tt count) (omega (arith, few)) (λ windows are. are)
    (λ windows good. good) (λ windows good. refl)))
    (λ windows are.
    let good = (good_windows windows).0 (recursion_from_All IsWindow windows are.each) in
    ((length windows, are.count) & (windows, (refl, good)), refl))
    (λ t.
    let each = All-from_recursion IsWindow t.2.0 ((good_windows t.2.0).1 t.2.1.1) in
    (record { count = rw t.2.1.0 t.1; each = each }, rw t.2.1.0 refl))

-- ---- a map without ranges

abbrev pub most_mapped : List FittedCard → ℕ
most_mapped fitted = 517 + regs_size fitted

pub mapped_format : (fitted : List FittedCard) →
    IsFormat (most_mapped fitted) (mapped_fields fitted) mapped_bytes (IsBare fitted)
unfolding mapped_fields
mapped_format fitted =
    format_as (most_mapped fitted) mapped_bytes (IsBare fitted)
    (fields_format
    (regs_format fitted then λ regs good.
    any_number wide32 (omega arith) then λ version below.
    last_field _ windows_format)
    (λ m is.
    let same = ap (λ (ranges : List MapRange). record m { ranges = ranges }) is.ranges in
    ((regs_of m.regs, is.saved.regs) & (m.version, is.saved.version) & (m.changed, is.saved.changed), same))
    (λ t. (record { saved = record { regs = t.1; version = t.2.1; changed = t.2.2.1 }; ranges = refl }, refl)))
    (omega arith) (λ m is. is) (λ m is. is) (λ m is. refl)

-- ---- and with them

bare_of : (fitted : List FittedCard) (map : Mapped) → IsMapped fitted map → IsBare fitted (bare map)
bare_of fitted map is = record { saved = assumption; ranges = refl }

pub same_map : OneFlatMap → SameMap
same_map one left right of_left of_right same =
    let board = of_left.board in
    let regs : left.regs ≡ right.regs = ap (λ (m : Mapped). m.regs) same in
    let ranges : left.ranges ≡ right.ranges =
    one board.setup board.bytes left.ranges right.ranges (of_left.map board.setup board.bytes board.stands)
    (of_right.map board.setup board.bytes (subst (StandsFor board.setup board.bytes) regs board.stands)) in
    ap (λ (m : Mapped). record m { ranges = left.ranges }) same
    ∙ ap (λ (ranges : List MapRange). record right { ranges = ranges }) ranges

pub loads_map : OneFlatMap → (fitted : List FittedCard) (before after : List ℕ) (result : Result Mapped Bad) →
    AreBytes before → Took bare result after (mapped_fields fitted before) →
    IfOk result (λ map. IsMapOf map.regs map.ranges) → LoadsMap fitted before after result
loads_map one fitted before after (Ok got) are took whole =
    let read = loads (mapped_format fitted) before after (Ok (bare got)) are took in
    record {
      loaded = (record { saved = assumption; whole = whole }, read.loaded.1);
      exact = λ map rest is begins.
          let same = read.exact (bare map) rest (bare_of fitted map is) begins in
          (ap Ok (same_map one got map whole is.whole cc), same.1);
      bad = took;
    }
loads_map one fitted before after (Err bad) are took whole =
    let read = loads (mapped_format fitted) before after (Err bad) are took in
    record {
      loaded = tt;
      exact = λ map rest is begins.
          let same = read.exact (bare map) rest (bare_of fitted map is) begins in absurd cc;
      bad = took;
    }

pub one_map : OneFlatMap → (fitted : List FittedCard) → OneSpelling mapped_bytes (IsMapped fitted)
one_map one fitted left right of_left of_right same =
    same_map one left right of_left.whole of_right.whole
    (one_spelling (mapped_format fitted) (bare left) (bare right) (bare_of _ _ of_left) (bare_of _ _ of_right) same)
