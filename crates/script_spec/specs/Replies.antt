-- What the words of a reply say, by its event: the reader's way through its shapes.
use Rattle.std.specs.Prelude.{ℕ, zero, suc, ◌+◌, ◌-◌, ◌*◌, ◌==◌, ◌≤◌, Bool, false, List, [], ◌∷◌, length, if◌then◌else◌}
use Rattle.std.specs.Prelude.{Option, Some, None, option_map, codes, bytes_eq}
use Rattle.board_prelude.specs.{WideAccess, bytes_of, Event, Memory, Wide, Port, Ack, Part, Parts, Two, Three, Four}
use Rattle.board_prelude.specs.{Reply, Bus, Saw, is_write, longest_at, parts_list, answers_outside, outside_answer}
use Rattle.board_spec.specs.declared.event.Event.TheVariants.{Look as LookAt}
use Rattle.board_spec.specs.declared.event.Reply.TheVariants.{Parts as InParts}
use Rattle.script_spec.specs.Numbers.{parse_hex, parse_decimal, ◌>>=◌}
use Rattle.script_spec.specs.Targets.{parse_denial, parse_area, parse_target}

abbrev pub parse_no_value : List ℕ → Option (Option ℕ)
parse_no_value field = if bytes_eq field (codes "-") then Some None else None

-- an access that writes has no value in its reply
abbrev pub parse_value : (writes : Bool) → (bytes : ℕ) → List ℕ → Option (Option ℕ)
parse_value writes bytes field = if writes then parse_no_value field else option_map Some (parse_hex (2 * bytes) field)

unfoldable pub bus_reply : (writes : Bool) → (bytes : ℕ) → (value target denial : List ℕ) → Option Reply
bus_reply writes bytes value target denial = do
  value ← parse_value writes bytes value
  target ← parse_target target
  denial ← parse_denial denial
  Some (Bus value target denial)

-- `VALUE TARGET DENIAL`
unfoldable pub parse_bus_reply : (writes : Bool) → (bytes : ℕ) → List (List ℕ) → Option Reply
parse_bus_reply writes bytes [] = None
parse_bus_reply writes bytes (_ ∷ []) = None
parse_bus_reply writes bytes (_ ∷ _ ∷ []) = None
parse_bus_reply writes bytes (value ∷ target ∷ denial ∷ []) = bus_reply writes bytes value target denial
parse_bus_reply writes bytes (_ ∷ _ ∷ _ ∷ _ ∷ _) = None

-- ---- wide accesses

unfoldable pub parse_part : (target denial : List ℕ) → Option Part
parse_part target denial = do
  target ← parse_target target
  denial ← parse_denial denial
  Some (record { target = target; denial = denial })

-- after three parts
unfoldable pub parse_last_parts : Part → Part → Part → List (List ℕ) → Option Parts
parse_last_parts a b c [] = Some (Three a b c)
parse_last_parts a b c (_ ∷ []) = None
parse_last_parts a b c (target ∷ denial ∷ []) = option_map (Four a b c) (parse_part target denial)
parse_last_parts a b c (_ ∷ _ ∷ _ ∷ _) = None

-- after two parts
unfoldable pub parse_more_parts : Part → Part → List (List ℕ) → Option Parts
parse_more_parts a b [] = Some (Two a b)
parse_more_parts a b (_ ∷ []) = None
parse_more_parts a b (target ∷ denial ∷ later) = do
  c ← parse_part target denial
  parse_last_parts a b c later

-- `TARGET DENIAL` of each part
unfoldable pub parse_parts : List (List ℕ) → Option Parts
parse_parts [] = None
parse_parts (_ ∷ []) = None
parse_parts (_ ∷ _ ∷ []) = None
parse_parts (_ ∷ _ ∷ _ ∷ []) = None
parse_parts (target ∷ denial ∷ other ∷ next ∷ later) = do
  a ← parse_part target denial
  b ← parse_part other next
  parse_more_parts a b later

-- how many parts the bytes that are left from an address on make, at most so many
unfoldable pub part_count : (most addr left : ℕ) → ℕ
part_count zero addr left = 0
part_count (suc most) addr left =
    if left == 0 then 0 else
    let bytes = bytes_of (longest_at addr left) in
    1 + part_count most (addr + bytes) (left - bytes)

abbrev pub parts_with : WideAccess → Option ℕ → Parts → Option Reply
parts_with access value parts =
    if length (parts_list parts) == part_count 4 access.addr access.bytes then Some (InParts parts value) else None

-- `VALUE`, and each part
unfoldable pub parse_wide_reply : WideAccess → List (List ℕ) → Option Reply
parse_wide_reply access [] = None
parse_wide_reply access (value ∷ words) = do
  value ← parse_value (is_write access.kind) access.bytes value
  parts ← parse_parts words
  parts_with access value parts

-- ---- looks

unfoldable pub look_reply : (version lo hi area : List ℕ) → Option Reply
look_reply version lo hi area = do
  version ← parse_decimal version
  lo ← parse_hex 8 lo
  hi ← parse_hex 8 hi
  area ← parse_area area
  Some (Saw (record { version = version; lo = lo; hi = hi; area = area }))

-- `VERSION LO HI AREA`
unfoldable pub parse_look_reply : List (List ℕ) → Option Reply
parse_look_reply [] = None
parse_look_reply (_ ∷ []) = None
parse_look_reply (_ ∷ _ ∷ []) = None
parse_look_reply (_ ∷ _ ∷ _ ∷ []) = None
parse_look_reply (version ∷ lo ∷ hi ∷ area ∷ []) = look_reply version lo hi area
parse_look_reply (_ ∷ _ ∷ _ ∷ _ ∷ _ ∷ _) = None

-- ---- by the event

-- a wide access has at most eight bytes
abbrev pub IsNarrow : Event → Type 0
IsNarrow (Wide access) = access.bytes ≤ 8
IsNarrow _ = Unit {0}

unfoldable pub parse_reply : Event → List (List ℕ) → Option Reply
parse_reply (Memory access) words = parse_bus_reply (is_write access.kind) (bytes_of access.width) words
parse_reply (Wide access) words = parse_wide_reply access words
parse_reply (Port access) words = parse_bus_reply access.write (bytes_of access.width) words
parse_reply (LookAt kind addr smm) words = parse_look_reply words
parse_reply Ack words = parse_bus_reply false 1 words
parse_reply event words = Some (outside_answer (answers_outside event))

-- after the `=` a space stands before the first word
unfoldable pub parse_spaced_reply : Event → List (List ℕ) → Option Reply
parse_spaced_reply event [] = None
parse_spaced_reply event (_ ∷ words) = parse_reply event words
