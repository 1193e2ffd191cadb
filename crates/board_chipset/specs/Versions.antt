-- What a chipset tells of its map: the version modulo 2^32, and the windows of the last change.
use Rattle.std.specs.Prelude.{ℕ, ◌≡◌, ◌%◌, ◌^◌, Bool, List, [], ◌∷◌, Option, Some, None}
use Rattle.board_prelude.specs.{Kind, Event, Look, Reply, Entry, MapChange, Setup, byte_of, map_change_of, version_of}
use Rattle.board_prelude.specs.{IsSpan, IsAnswer, IsSeen}
use Rattle.board_spec.specs.declared.event.Event.TheVariants.{Look as LookAt}
use Rattle.map_builder.specs.declared.range.Changed.{Changed}
use Rattle.map_builder.specs.Applied.{AreChanged}

-- how many versions a chipset tells apart
abbrev pub version_count : ℕ
version_count = 2 ^ 32

-- a look as its answer, but for the version, which is counted modulo 2^32
pub record IsLookModulo (setup : Setup) (before : List Entry) (kind : Kind) (addr : ℕ) (smm : Bool) (look : Look) : Type
    0 where
  pub version : look.version ≡ version_of setup before % version_count
  pub span : IsSpan setup (byte_of setup before) addr kind smm look.lo look.hi look.area

-- a reply is the answer, but for the version of a look
abbrev pub IsAnswerModulo : Setup → List Entry → Event → Reply → Type 0
IsAnswerModulo setup before (LookAt kind addr smm) reply = IsSeen (IsLookModulo setup before kind addr smm) reply
IsAnswerModulo setup before event reply = IsAnswer setup before event reply

-- the windows after an entry: those that its change of the map changed, and those of before where it makes none
abbrev pub AreNextChanged : Setup → List Entry → Option MapChange → (earlier : Type 0) → List Changed → Type 0
AreNextChanged setup before None earlier windows = earlier
AreNextChanged setup before (Some change) earlier windows = AreChanged setup (byte_of setup before) change windows

-- these windows were changed by the last change of the map in a history. There are none before the first
unfoldable pub AreLastChanged : Setup → List Entry → List Changed → Type 0
AreLastChanged setup [] windows = windows ≡ []
AreLastChanged setup (entry ∷ before) windows =
    AreNextChanged setup before (map_change_of setup before entry.event) (AreLastChanged setup before windows) windows
