-- What one part of a reply's record names: none where a number of it names nothing, or does not fit where it goes.
use Rattle.std.specs.Prelude.{ℕ, ◌==◌, nat_lt, if◌then◌else◌, List, [], ◌∷◌, Option, Some, None, option_map}
use Rattle.std.specs.Prelude.{find}
use Rattle.board_prelude.specs.{Dev, Area, Target, Denial, Register, Confadd, NoRegister, Part, named_devices}
use Rattle.board_prelude.specs.{option_or}
use Rattle.board_base.specs.declared.target.Dev.TheVariants as devices
use Rattle.board_base.specs.declared.target.Area.TheVariants as areas
use Rattle.board_base.specs.declared.target.Target.TheVariants as targets
use Rattle.script_spec.specs.Numbers.{◌>>=◌}
use Rattle.machine_records.specs.declared.reply.PartRecord.{PartRecord}
use Rattle.machine_records.specs.Numbers.{dram_target, shadow_target, smram_target, rom_target, card_target}
use Rattle.machine_records.specs.Numbers.{device_target, config_target, abort_target, register_denial, confadd_denial}
use Rattle.machine_records.specs.Numbers.{no_register_denial, device_number}

-- who answers an interrupt acknowledge
abbrev pub acknowledges : List Dev
acknowledges = devices.Vector 0 ∷ devices.Vector 1 ∷ devices.Spurious 0 ∷ devices.Spurious 1 ∷ []

-- the one of these devices that has a number
abbrev pub numbered : List Dev → (number : ℕ) → Option Dev
numbered some number = find (λ dev. device_number dev == number) some

unfoldable pub device_recorded : (number : ℕ) → Option Dev
device_recorded number = option_or (numbered named_devices number) (numbered acknowledges number)

-- the first register of an access to configuration space, whose offset is a byte
unfoldable pub config_recorded : PartRecord → Option Target
config_recorded said =
    if nat_lt said.offset 256
    then Some (targets.Config (record { dev = said.unit; fun = said.base; off = said.offset }))
    else None

unfoldable pub target_recorded : PartRecord → Option Target
target_recorded said =
    if said.target == dram_target then Some (targets.Dram said.unit) else
    if said.target == shadow_target then Some (targets.Shadow said.unit) else
    if said.target == smram_target then Some targets.Smram else
    if said.target == rom_target then Some (targets.Rom said.offset) else
    if said.target == card_target then Some (targets.Card said.unit said.base said.offset) else
    if said.target == device_target then option_map targets.Device (device_recorded said.unit) else
    if said.target == config_target then config_recorded said else
    if said.target == abort_target then Some targets.Abort else None

unfoldable pub denial_recorded : PartRecord → Option (Option Denial)
denial_recorded said =
    if said.denial == 0 then Some None else
    if said.denial == register_denial
    then Some (Some (Register (record { dev = said.denial_dev; fun = said.denial_fun; off = said.denial_off }))) else
    if said.denial == confadd_denial then Some (Some Confadd) else
    if said.denial == no_register_denial then Some (Some NoRegister) else None

-- what is kept for later versions is 0
unfoldable pub part_recorded : PartRecord → Option Part
part_recorded said = if said.reserved == 0
    then (do
      target ← target_recorded said
      denial ← denial_recorded said
      Some (record { target = target; denial = denial }))
    else None

-- the area that a look saw
unfoldable pub area_recorded : PartRecord → Option Area
area_recorded said =
    if said.target == dram_target then Some (areas.Dram said.unit) else
    if said.target == shadow_target then Some (areas.Shadow said.unit) else
    if said.target == smram_target then Some areas.Smram else
    if said.target == rom_target then Some areas.Rom else
    if said.target == card_target then Some (areas.Card said.unit said.base) else
    if said.target == abort_target then Some areas.Abort else None
