-- What the laws say: each is proved on a function of `laws`.
use Rattle.std.specs.Prelude.{ℕ, ◌≡◌, ◌<◌, Bool, true, List, All}
use Rattle.board_base.specs.declared.access.Kind.{Kind}
use Rattle.board_base.specs.declared.target.Area.{Area}
use Rattle.board_base.specs.declared.target.Reg.{Reg}
use Rattle.board_spec.specs.declared.event.Event.{Event}
use Rattle.board_spec.specs.declared.event.Event.TheVariants.{Wide, Look as LookAt}
use Rattle.board_spec.specs.declared.event.Reply.{Reply}
use Rattle.board_spec.specs.declared.event.Entry.{Entry}
use Rattle.board_spec.specs.declared.event.Statement.{Statement}
use Rattle.board_spec.specs.Setup.{Setup, IsCardList}
use Rattle.board_spec.specs.InRange.{IsWideAccess}
use Rattle.board_spec.specs.Registers.{byte_of}
use Rattle.board_spec.specs.MapWrites.{is_map_byte, map_writes_of, registers_after}
use Rattle.board_spec.specs.Decode.{Bytes, area_of, denial_of}
use Rattle.board_spec.specs.FlatMap.{MapRange, IsFlatMapOf, IsSpan, address_count}
use Rattle.board_spec.specs.Answer.{IsAnswer}
use Rattle.board_spec.specs.Legal.{IsLegal}
use Rattle.board_spec.specs.Orders.{IsReplayOf}
use Rattle.board_spec.specs.LockLaw.{LockLaw}

-- the map registers after a history are those after its map writes, so the map depends on them alone
abbrev pub MapWritesDecide : Type 0
MapWritesDecide =
    (setup : Setup) (history : List Entry) (reg : Reg) →
    is_map_byte setup reg ≡ true → byte_of setup history reg ≡ registers_after setup (map_writes_of setup history) reg

-- two states of the registers have the same map bytes
abbrev pub SameMapBytes : Setup → (bytes other : Bytes) → Type 0
SameMapBytes setup bytes other = (reg : Reg) → is_map_byte setup reg ≡ true → bytes reg ≡ other reg

-- where the map bytes are the same, so are the areas and the denials. A card has at most six bases, so
-- that all of them lie in map bytes
abbrev pub MapBytesDecide : Type 0
MapBytesDecide =
    (setup : Setup) (bytes other : Bytes) → IsCardList setup.cards → SameMapBytes setup bytes other →
    (addr : ℕ) (kind : Kind) (smm : Bool) →
    (area_of setup bytes addr kind smm ≡ area_of setup other addr kind smm)
    × (denial_of setup bytes addr kind smm ≡ denial_of setup other addr kind smm)

-- two flat maps of the same registers are one list
abbrev pub OneFlatMap : Type 0
OneFlatMap =
    (setup : Setup) (bytes : Bytes) (left right : List MapRange) →
    IsFlatMapOf setup bytes left → IsFlatMapOf setup bytes right → left ≡ right

-- every address lies in exactly one span of a column
pub record Spanned (setup : Setup) (bytes : Bytes) (addr : ℕ) (kind : Kind) (smm : Bool) : Type 0 where
  pub lo : ℕ
  pub hi : ℕ
  pub area : Area
  pub span : IsSpan setup bytes addr kind smm lo hi area

abbrev pub SomeSpan : Type 0
SomeSpan =
    (setup : Setup) (bytes : Bytes) (addr : ℕ) (kind : Kind) (smm : Bool) →
    addr < address_count → Spanned setup bytes addr kind smm

abbrev pub OneSpan : Type 0
OneSpan =
    (setup : Setup) (bytes : Bytes) (addr : ℕ) (kind : Kind) (smm : Bool) (lo hi lo' hi' : ℕ) (area area' : Area) →
    IsSpan setup bytes addr kind smm lo hi area →
    IsSpan setup bytes addr kind smm lo' hi' area' →
    (lo ≡ lo') × (hi ≡ hi') × (area ≡ area')

-- the lock law holds of every legal history
abbrev pub LegalKeepsLock : Type 0
LegalKeepsLock = (setup : Setup) (history : List Entry) → IsLegal setup history → LockLaw setup history

-- the address of a look is an address, and a wide access is one
abbrev pub IsAddressed : Event → Type 0
IsAddressed (LookAt kind addr smm) = addr < address_count
IsAddressed (Wide access) = IsWideAccess access
IsAddressed _ = Unit {0}

-- every event has an answer, and only one
pub record Answered (setup : Setup) (before : List Entry) (event : Event) : Type 0 where
  pub reply : Reply
  pub answer : IsAnswer setup before event reply

abbrev pub SomeAnswer : Type 0
SomeAnswer = (setup : Setup) (before : List Entry) (event : Event) → IsAddressed event → Answered setup before event

abbrev pub OneAnswer : Type 0
OneAnswer =
    (setup : Setup) (before : List Entry) (event : Event) (left right : Reply) →
    IsAnswer setup before event left → IsAnswer setup before event right → left ≡ right

-- every list of statements has a replay, and only one
pub record Replayed (setup : Setup) (statements : List Statement) : Type 0 where
  pub history : List Entry
  pub replay : IsReplayOf setup statements history

abbrev pub SomeReplay : Type 0
SomeReplay =
    (setup : Setup) (statements : List Statement) →
    All (λ statement. IsAddressed statement.event) statements → Replayed setup statements

abbrev pub OneReplay : Type 0
OneReplay =
    (setup : Setup) (statements : List Statement) (left right : List Entry) →
    IsReplayOf setup statements left → IsReplayOf setup statements right → left ≡ right
