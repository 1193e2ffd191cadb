-- A wide access is its cycles.
use Rattle.std.proofs.Common.{◌≡◌, ◌∷◌, [], ℕ, false, List, Option, Some, None, ap, sym, ◌∙◌, map}
use Rattle.std.proofs.Common.{All, refl, unwrap_or}
use Rattle.board_prelude.proofs.{All-head, All-tail}
use Rattle.std.specs.Option.{option_or}
use Rattle.board_base.specs.declared.access.WideAccess.{WideAccess}
use Rattle.board_base.specs.declared.access.Access.{Access}
use Rattle.board_spec.specs.declared.event.Entry.{Entry}
use Rattle.board_spec.specs.declared.event.Event.TheVariants.{Memory, Wide}
use Rattle.board_spec.specs.declared.event.Parts.{Parts}
use Rattle.board_spec.specs.declared.event.Reply.TheVariants.{Parts as InParts}
use Rattle.board_spec.specs.Setup.{Setup}
use Rattle.board_spec.specs.InRange.{IsWideAccess}
use Rattle.board_spec.specs.Answer.{IsWideAnswer, memory_answer, memory_target, value_at, part_answer, wide_value}
use Rattle.board_spec.specs.PartLaws.{CutIntoParts, IsPart}
use Rattle.board_spec.specs.Stored.{Cell, is_write, memory_put, stored_of, parts_put}
use Rattle.board_spec.specs.WideParts.{joined, parts_list, parts_of}
use Rattle.promises.specs.Definitions.{answered_by, value_in, cycles_after, IsItsCycles, WideIsItsCycles}

module _ (setup : Setup) (before : List Entry) where
  answered : (cycle : Access) → Some (part_answer setup before cycle) ≡ answered_by (memory_answer setup before cycle)
  unfolding part_answer memory_answer
  answered cycle = refl

  all_answered : (cycles : List Access) →
      map Some (map (part_answer setup before) cycles)
      ≡ map (λ cycle. answered_by (memory_answer setup before cycle)) cycles
  all_answered [] = refl
  all_answered (cycle ∷ cycles) = cc (answered cycle, all_answered cycles)

  -- ---- what a read gives

  abbrev value_of : Access → ℕ
  value_of cycle = value_at setup before (memory_target setup before cycle) cycle.addr cycle.width

  one_value : (cycle : Access) → is_write cycle.kind ≡ false →
      value_of cycle ≡ value_in (memory_answer setup before cycle)
  unfolding memory_answer
  one_value cycle reads = rw reads refl

  all_values : (access : WideAccess) → is_write access.kind ≡ false → (cycles : List Access) →
      All (IsPart access) cycles →
      joined value_of cycles ≡ joined (λ cycle. value_in (memory_answer setup before cycle)) cycles
  all_values access reads [] all = refl
  all_values access reads (cycle ∷ cycles) all =
      let part = All-head (IsPart access) cycle cycles all in
      let head = one_value cycle (ap is_write part.kind ∙ reads) in
      let rest = all_values access reads cycles (All-tail (IsPart access) cycle cycles all) in
      cc (head, rest)

  read_of : (access : WideAccess) → IsWideAccess access → CutIntoParts → is_write access.kind ≡ false →
      wide_value setup before access
      ≡ Some (joined (λ cycle. value_in (memory_answer setup before cycle)) (parts_of access))
  unfolding wide_value
  read_of access legal cut reads =
      let cycles = cut access legal in
      rw reads (ap Some (all_values access reads (parts_of access) cycles.each))

  -- ---- what is stored after the cycles is what the parts store

  or_first : (first second : Option ℕ) (stored : ℕ) →
      unwrap_or (option_or first second) stored ≡ unwrap_or first (unwrap_or second stored)
  or_first None second stored = refl
  or_first (Some byte) second stored = refl

  put_alone : (cycle : Access) (now : List Entry) (cell : Cell) →
      stored_of (record { actor = 0; seq = 0; event = Memory cycle; reply = memory_answer setup before cycle } ∷ now)
      cell
      ≡ unwrap_or (memory_put cycle (part_answer setup before cycle).target cell) (stored_of now cell)
  unfolding stored_of memory_answer part_answer
  put_alone cycle now cell = refl

  put_first : (cycle : Access) (cycles : List Access) (cell : Cell) →
      parts_put (cycle ∷ cycles) (map (part_answer setup before) (cycle ∷ cycles)) cell
      ≡ option_or (parts_put cycles (map (part_answer setup before) cycles) cell)
      (memory_put cycle (part_answer setup before cycle).target cell)
  unfolding parts_put
  put_first cycle cycles cell = refl

  put_none : (cell : Cell) → parts_put [] [] cell ≡ None
  unfolding parts_put
  put_none cell = refl

  stored_by : (cycles : List Access) (now : List Entry) (cell : Cell) →
      unwrap_or (parts_put cycles (map (part_answer setup before) cycles) cell) (stored_of now cell)
      ≡ stored_of (cycles_after now cycles (map (memory_answer setup before) cycles)) cell
  stored_by [] now cell = rw (put_none cell) refl
  stored_by (cycle ∷ cycles) now cell =
      let later = parts_put cycles (map (part_answer setup before) cycles) cell in
      let first = memory_put cycle (part_answer setup before cycle).target cell in
      let entry : Entry =
      record { actor = 0; seq = 0; event = Memory cycle; reply = memory_answer setup before cycle } in
      ap (λ put. unwrap_or put (stored_of now cell)) (put_first cycle cycles cell)
      ∙ (or_first later first (stored_of now cell)
      ∙ (ap (unwrap_or later) (sym (put_alone cycle now cell)) ∙ stored_by cycles (entry ∷ now) cell))

  put_wide : (entry : Entry) (access : WideAccess) (value : Option ℕ) (parts : Parts) (cell : Cell) →
      entry.event ≡ Wide access → entry.reply ≡ InParts parts value →
      stored_of (entry ∷ before) cell
      ≡ unwrap_or (parts_put (parts_of access) (parts_list parts) cell) (stored_of before cell)
  unfolding stored_of
  put_wide entry access value parts cell asked replied = rw (asked, replied) refl

  of_answer : (entry : Entry) (access : WideAccess) (value : Option ℕ) (parts : Parts) → CutIntoParts →
      IsWideAccess access → entry.event ≡ Wide access → entry.reply ≡ InParts parts value →
      IsWideAnswer setup before access value parts → IsItsCycles setup before entry access value (parts_list parts)
  of_answer entry access value parts cut legal asked replied is = record {
    cycles = cut access legal;
    each = ap (map Some) is.each ∙ all_answered (parts_of access);
    read = λ reads. is.value_is ∙ read_of access legal cut reads;
    stored = λ cell.
        put_wide entry access value parts cell asked replied
        ∙ (ap (λ list. unwrap_or (parts_put (parts_of access) list cell) (stored_of before cell)) is.each
        ∙ stored_by (parts_of access) before cell);
  }

pub wide_is_its_cycles : CutIntoParts → WideIsItsCycles
wide_is_its_cycles cut setup before entry access value parts legal asked replied answer =
    of_answer setup before entry access value parts cut legal asked replied (rw (asked, replied) at answer)
