-- What the words of a reply name: the reader's way through them.
use Rattle.std.specs.Prelude.{ℕ, List, if◌then◌else◌, Option, Some, None, option_map, codes, bytes_eq}
use Rattle.board_prelude.specs.{Reg, Dev, Area, Target, Denial, Register, Confadd, NoRegister, option_or, device_worded}
use Rattle.board_base.specs.declared.target.Dev.TheVariants as devices
use Rattle.board_base.specs.declared.target.Area.TheVariants as areas
use Rattle.board_base.specs.declared.target.Target.TheVariants as targets
use Rattle.script_spec.specs.Numbers.{parse_hex, ◌>>=◌}
use Rattle.script_spec.specs.Cuts.{cut, parse_one_digit}

-- ---- registers and denials

-- `DD.F.OO`
unfoldable pub parse_register : List ℕ → Option Reg
parse_register field = do
  dev ← cut 0x2E field
  fun ← cut 0x2E dev.1
  number ← parse_hex 2 dev.0
  function ← parse_hex 1 fun.0
  offset ← parse_hex 2 fun.1
  Some (record { dev = number; fun = function; off = offset })

abbrev pub parse_denial_word : List ℕ → Option (Option Denial)
parse_denial_word field =
    if bytes_eq field (codes "-") then Some None else
    if bytes_eq field (codes "confadd") then Some (Some Confadd) else
    if bytes_eq field (codes "none") then Some (Some NoRegister) else None

abbrev pub denial_with : Option Reg → List ℕ → Option (Option Denial)
denial_with (Some reg) field = Some (Some (Register reg))
denial_with None field = parse_denial_word field

unfoldable pub parse_denial : List ℕ → Option (Option Denial)
parse_denial field = denial_with (parse_register field) field

-- ---- areas

-- `D.B`, the device and the number of a base
unfoldable pub parse_card_base : List ℕ → Option (ℕ × ℕ)
parse_card_base field = do
  parts ← cut 0x2E field
  dev ← parse_one_digit parts.0
  base ← parse_one_digit parts.1
  Some (dev, base)

-- by the word before the colon
abbrev pub parse_area_of_kind : (kind place : List ℕ) → Option Area
parse_area_of_kind kind place =
    if bytes_eq kind (codes "dram") then option_map areas.Dram (parse_one_digit place) else
    if bytes_eq kind (codes "shadow") then option_map areas.Shadow (parse_one_digit place) else
    if bytes_eq kind (codes "card") then option_map (λ p. areas.Card p.0 p.1) (parse_card_base place) else None

unfoldable pub parse_placed_area : List ℕ → Option Area
parse_placed_area field = do
  parts ← cut 0x3A field
  parse_area_of_kind parts.0 parts.1

unfoldable pub parse_area : List ℕ → Option Area
parse_area field =
    if bytes_eq field (codes "smram") then Some areas.Smram else
    if bytes_eq field (codes "rom") then Some areas.Rom else
    if bytes_eq field (codes "abort") then Some areas.Abort else parse_placed_area field

-- ---- targets

-- `D.B:OFFSET`
unfoldable pub parse_card_target : List ℕ → Option Target
parse_card_target field = do
  parts ← cut 0x3A field
  base ← parse_card_base parts.0
  offset ← parse_hex 8 parts.1
  Some (targets.Card base.0 base.1 offset)

-- by the word before the colon
abbrev pub parse_target_of_kind : (kind place : List ℕ) → Option Target
parse_target_of_kind kind place =
    if bytes_eq kind (codes "dram") then option_map targets.Dram (parse_one_digit place) else
    if bytes_eq kind (codes "shadow") then option_map targets.Shadow (parse_one_digit place) else
    if bytes_eq kind (codes "rom") then option_map targets.Rom (parse_hex 5 place) else
    if bytes_eq kind (codes "card") then parse_card_target place else
    if bytes_eq kind (codes "config") then option_map targets.Config (parse_register place) else None

unfoldable pub parse_placed_target : List ℕ → Option Target
parse_placed_target field = do
  parts ← cut 0x3A field
  parse_target_of_kind parts.0 parts.1

-- who answers an interrupt acknowledge
abbrev pub parse_chip : List ℕ → Option Dev
parse_chip field =
    if bytes_eq field (codes "vec0") then Some (devices.Vector 0) else
    if bytes_eq field (codes "vec1") then Some (devices.Vector 1) else
    if bytes_eq field (codes "spur0") then Some (devices.Spurious 0) else
    if bytes_eq field (codes "spur1") then Some (devices.Spurious 1) else None

-- a device with one name, or an acknowledge
unfoldable pub parse_device : List ℕ → Option Dev
parse_device field = option_or (device_worded field) (parse_chip field)

abbrev pub parse_other_target : List ℕ → Option Target
parse_other_target field =
    if bytes_eq field (codes "smram") then Some targets.Smram else
    if bytes_eq field (codes "abort") then Some targets.Abort else parse_placed_target field

abbrev pub target_from : Option Dev → List ℕ → Option Target
target_from (Some dev) field = Some (targets.Device dev)
target_from None field = parse_other_target field

unfoldable pub parse_target : List ℕ → Option Target
parse_target field = target_from (parse_device field) field
