-- What a statement asks, by the fields of its line after the processor's number: the reader's way through the forms.
use Rattle.std.specs.Prelude.{ℕ, ◌*◌, ◌%◌, ◌≡◌, ◌⊎◌, ◌==◌, Bool, true, false, not, ◌&&◌, ◌||◌, List, [], ◌∷◌}
use Rattle.std.specs.Prelude.{if◌then◌else◌, Option, Some, None, option_map, codes, bytes_eq}
use Rattle.board_prelude.specs.{Width, One, bytes_of, Kind, Fetch, Write, Event, Memory, Wide, Port, Ack, Read}
use Rattle.board_prelude.specs.{Stimulus, stimulus_form}
use Rattle.board_base.specs.declared.access.Width.TheVariants.{Two, Four}
use Rattle.board_spec.specs.declared.event.Event.TheVariants.{Look as LookAt}
use Rattle.script_spec.specs.Numbers.{parse_hex, parse_decimal, ◌>>=◌}

-- ---- fields

abbrev pub parse_width : List ℕ → Option Width
parse_width field =
    if bytes_eq field (codes "b") then Some One else
    if bytes_eq field (codes "w") then Some Two else
    if bytes_eq field (codes "d") then Some Four else None

abbrev pub quad_size : (version : ℕ) → Option ℕ
quad_size version = if version == 2 then Some 8 else None

-- the bytes of a memory access
abbrev pub parse_size : (version : ℕ) → List ℕ → Option ℕ
parse_size version field =
    if bytes_eq field (codes "b") then Some 1 else
    if bytes_eq field (codes "w") then Some 2 else
    if bytes_eq field (codes "d") then Some 4 else
    if bytes_eq field (codes "q") then quad_size version else None

abbrev pub parse_kind : List ℕ → Option Kind
parse_kind field =
    if bytes_eq field (codes "f") then Some Fetch else
    if bytes_eq field (codes "r") then Some Read else
    if bytes_eq field (codes "w") then Some Write else None

-- the last field of an access in SMM
unfoldable pub parse_smm : List (List ℕ) → Option Bool
parse_smm [] = Some false
parse_smm (field ∷ []) = if bytes_eq field (codes "smm") then Some true else None
parse_smm (_ ∷ _ ∷ _) = None

-- ---- memory

-- 1, 2 or 4 bytes, or 8 in version 2
abbrev pub IsSize : (version bytes : ℕ) → Type 0
IsSize version bytes = (bytes ≡ 1) ⊎ (bytes ≡ 2) ⊎ (bytes ≡ 4) ⊎ ((bytes ≡ 8) × (version ≡ 2))

abbrev pub width_with : (bytes : ℕ) → Width
width_with bytes = if bytes == 1 then One else if bytes == 2 then Two else Four

-- in version 2 an access that is not aligned, or has 8 bytes, is a wide one
abbrev pub is_wide : (version bytes addr : ℕ) → Bool
is_wide version bytes addr = version == 2 && (bytes == 8 || not (addr % bytes == 0))

unfoldable pub memory_event : (version : ℕ) → Kind → (bytes addr value : ℕ) → Bool → Event
memory_event version kind bytes addr value smm =
    if is_wide version bytes addr
    then Wide (record { kind = kind; addr = addr; bytes = bytes; smm = smm; value = value })
    else Memory (record { kind = kind; addr = addr; width = width_with bytes; smm = smm; value = value })

unfoldable pub read_event : (version : ℕ) → Kind → (size addr : List ℕ) → (smm : Bool) → Option Event
read_event version kind size addr smm = do
  bytes ← parse_size version size
  addr ← parse_hex 8 addr
  Some (memory_event version kind bytes addr 0 smm)

-- `W ADDR`, after `r` or `f`
unfoldable pub parse_read : (version : ℕ) → Kind → List (List ℕ) → Option Event
parse_read version kind [] = None
parse_read version kind (_ ∷ []) = None
parse_read version kind (size ∷ addr ∷ flags) = do
  smm ← parse_smm flags
  read_event version kind size addr smm

unfoldable pub write_event : (version : ℕ) → (size addr value : List ℕ) → (smm : Bool) → Option Event
write_event version size addr value smm = do
  bytes ← parse_size version size
  addr ← parse_hex 8 addr
  value ← parse_hex (2 * bytes) value
  Some (memory_event version Write bytes addr value smm)

-- `W ADDR VALUE`, after `w`
unfoldable pub parse_write : (version : ℕ) → List (List ℕ) → Option Event
parse_write version [] = None
parse_write version (_ ∷ []) = None
parse_write version (_ ∷ _ ∷ []) = None
parse_write version (size ∷ addr ∷ value ∷ flags) = do
  smm ← parse_smm flags
  write_event version size addr value smm

-- ---- ports

unfoldable pub in_event : (width port : List ℕ) → Option Event
in_event width port = do
  width ← parse_width width
  port ← parse_hex 4 port
  Some (Port (record { write = false; port = port; width = width; value = 0 }))

-- `W PORT`, after `in`
unfoldable pub parse_in : List (List ℕ) → Option Event
parse_in [] = None
parse_in (_ ∷ []) = None
parse_in (width ∷ port ∷ []) = in_event width port
parse_in (_ ∷ _ ∷ _ ∷ _) = None

unfoldable pub out_event : (width port value : List ℕ) → Option Event
out_event width port value = do
  width ← parse_width width
  port ← parse_hex 4 port
  value ← parse_hex (2 * bytes_of width) value
  Some (Port (record { write = true; port = port; width = width; value = value }))

-- `W PORT VALUE`, after `out`
unfoldable pub parse_out : List (List ℕ) → Option Event
parse_out [] = None
parse_out (_ ∷ []) = None
parse_out (_ ∷ _ ∷ []) = None
parse_out (width ∷ port ∷ value ∷ []) = out_event width port value
parse_out (_ ∷ _ ∷ _ ∷ _ ∷ _) = None

-- ---- others

unfoldable pub look_event : (kind addr : List ℕ) → (smm : Bool) → Option Event
look_event kind addr smm = do
  kind ← parse_kind kind
  addr ← parse_hex 8 addr
  Some (LookAt kind addr smm)

-- `K ADDR`, after `look`
unfoldable pub parse_look : List (List ℕ) → Option Event
parse_look [] = None
parse_look (_ ∷ []) = None
parse_look (kind ∷ addr ∷ flags) = do
  smm ← parse_smm flags
  look_event kind addr smm

unfoldable pub parse_ack : List (List ℕ) → Option Event
parse_ack [] = Some Ack
parse_ack (_ ∷ _) = None

-- the number that is the only field
unfoldable pub parse_number : List (List ℕ) → Option ℕ
parse_number [] = None
parse_number (field ∷ []) = parse_decimal field
parse_number (_ ∷ _ ∷ _) = None

-- the two numbers that are the only fields
unfoldable pub parse_two_numbers : List (List ℕ) → Option (ℕ × ℕ)
parse_two_numbers [] = None
parse_two_numbers (_ ∷ []) = None
parse_two_numbers (first ∷ second ∷ []) = do
  first ← parse_decimal first
  second ← parse_decimal second
  Some (first, second)
parse_two_numbers (_ ∷ _ ∷ _ ∷ _) = None

-- the number of a stimulus, and its level, which is 0 where it has none
unfoldable pub parse_given : Stimulus → List (List ℕ) → Option (ℕ × ℕ)
parse_given stimulus words =
    if (stimulus_form stimulus).has_level
    then parse_two_numbers words
    else option_map (λ number. (number, 0)) (parse_number words)
