-- The definitions: the flat map answers at each address as the decode of the registers does, built from scratch or
-- changed in place, and a wide access is its cycles. Histories have the newest entry first.
use Rattle.std.specs.Prelude.{ℕ, ◌≡◌, ◌≤◌, ◌<◌, ◌∷◌, ◌++◌, Bool, true, false, List, Option, Some, None, map}
use Rattle.std.specs.Prelude.{slice_get, unwrap_or}
use Rattle.board_base.specs.declared.access.Kind.{Kind}
use Rattle.board_base.specs.declared.access.Kind.TheVariants.{Fetch, Read, Write}
use Rattle.board_base.specs.declared.access.WideAccess.{WideAccess}
use Rattle.board_base.specs.declared.access.Access.{Access}
use Rattle.board_spec.specs.declared.event.Entry.{Entry}
use Rattle.board_spec.specs.declared.event.Event.TheVariants.{Memory, Wide}
use Rattle.board_spec.specs.declared.event.Part.{Part}
use Rattle.board_spec.specs.declared.event.Parts.{Parts}
use Rattle.board_spec.specs.declared.event.Reply.{Reply}
use Rattle.board_spec.specs.declared.event.Reply.TheVariants.{Bus, Parts as InParts}
use Rattle.board_spec.specs.Setup.{Setup}
use Rattle.board_spec.specs.Decode.{Bytes, area_of}
use Rattle.board_spec.specs.FlatMap.{MapRange, IsFlatMapOf, address_count}
use Rattle.board_spec.specs.Answer.{IsAnswer, memory_answer}
use Rattle.board_spec.specs.InRange.{IsWideAccess}
use Rattle.board_spec.specs.PartLaws.{AreParts}
use Rattle.board_spec.specs.Stored.{Cell, is_write, stored_of}
use Rattle.board_spec.specs.WideParts.{joined, parts_list, parts_of}

-- ---- the flat map

-- the column of a row of the flat map that is of this kind of access
abbrev pub column : Kind → (smm : Bool) → ℕ
column Fetch false = 0
column Read false = 1
column Write false = 2
column Fetch true = 3
column Read true = 4
column Write true = 5

-- a range of the map has the address, and says what the decode says of every kind of access
pub record IsAnsweredBy (setup : Setup) (bytes : Bytes) (ranges : List MapRange) (addr : ℕ) : Type 0 where
  pub before : List MapRange
  pub range : MapRange
  pub later : List MapRange
  pub within : ranges ≡ before ++ range ∷ later
  pub above : range.lo ≤ addr
  pub below : addr ≤ range.hi
  pub says :
      (kind : Kind) (smm : Bool) →
      slice_get range.areas (column kind smm) ≡ Some (area_of setup bytes addr kind smm)

-- so does some range at each address; and there is no other flat map of these registers
pub record AnswersAsDecode (setup : Setup) (bytes : Bytes) (ranges : List MapRange) : Type 0 where
  pub each : (addr : ℕ) → addr < address_count → IsAnsweredBy setup bytes ranges addr
  pub only : (other : List MapRange) → IsFlatMapOf setup bytes other → ranges ≡ other

-- ---- a wide access

-- what a reply on the bus says of who answered, and the value that it has
abbrev pub answered_by : Reply → Option Part
answered_by (Bus value target denial) = Some (record { target = target; denial = denial })
answered_by _ = None

abbrev pub value_in : Reply → ℕ
value_in (Bus value target denial) = unwrap_or value 0
value_in _ = 0

-- the entries of cycles that were answered so, one after another
abbrev pub cycles_after : List Entry → List Access → List Reply → List Entry
cycles_after before (cycle ∷ cycles) (reply ∷ replies) =
    cycles_after (record { actor = 0; seq = 0; event = Memory cycle; reply = reply } ∷ before) cycles replies
cycles_after before _ _ = before

-- its cycles are two to four aligned accesses that cover its bytes in order. Each part of its reply is what answers the
-- cycle, what it reads are the values of the cycles joined, and what it stores they store one after another
pub record IsItsCycles (setup : Setup) (before : List Entry) (entry : Entry) (access : WideAccess)
    (value : Option ℕ) (parts : List Part) : Type 0 where
  pub cycles : AreParts access (parts_of access)
  pub each : map Some parts ≡ map (λ cycle. answered_by (memory_answer setup before cycle)) (parts_of access)
  pub read :
      is_write access.kind ≡ false →
      value ≡ Some (joined (λ cycle. value_in (memory_answer setup before cycle)) (parts_of access))
  pub stored :
      (cell : Cell) →
      stored_of (entry ∷ before) cell
      ≡ stored_of (cycles_after before (parts_of access) (map (memory_answer setup before) (parts_of access))) cell

-- of every legal entry
abbrev pub WideIsItsCycles : Type 0
WideIsItsCycles =
    (setup : Setup) (before : List Entry) (entry : Entry) (access : WideAccess) (value : Option ℕ) (parts : Parts) →
    IsWideAccess access → entry.event ≡ Wide access → entry.reply ≡ InParts parts value →
    IsAnswer setup before entry.event entry.reply →
    IsItsCycles setup before entry access value (parts_list parts)
