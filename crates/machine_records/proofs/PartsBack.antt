-- What the record of a part names is this part.
use Rattle.std.proofs.Common.{◌≡◌, Option, Some, refl, arith}
use Rattle.board_prelude.proofs.{lt-ltb, nat_tests, Dev, Area, Target, Denial, Register, Part}
use Rattle.board_base.specs.declared.target.Area.TheVariants as areas
use Rattle.board_base.specs.declared.target.Target.TheVariants as targets
use Rattle.script_spec.specs.WellFormed.{FitsDevice, FitsTarget, FitsPart}
use Rattle.machine_records.specs.declared.reply.PartRecord.{PartRecord}
use Rattle.machine_records.specs.Numbers.{device_number}
use Rattle.machine_records.specs.Replies.{target_said, area_said, with_denial, part_said, of_part}
use Rattle.machine_records.specs.PartsBack.{device_recorded, config_recorded, target_recorded, denial_recorded, part_recorded}
use Rattle.machine_records.specs.PartsBack.{area_recorded}

device_back : (dev : Dev) → FitsDevice dev → device_recorded (device_number dev) ≡ Some dev
unfolding device_recorded
device_back dev fits = grind (arith, nat_tests)

target_back : (target : Target) → FitsTarget target → target_recorded (target_said target) ≡ Some target
unfolding target_recorded config_recorded
target_back (targets.Device dev) fits = rw (device_back dev fits) refl
target_back (targets.Config reg) fits = rw (lt-ltb reg.off 256 fits.2) refl
target_back _ fits = refl

-- a denial leaves what answered as it is
denied_target : (said : PartRecord) (denial : Option Denial)
    → target_recorded (with_denial said denial) ≡ target_recorded said
unfolding target_recorded config_recorded
denied_target said (Some (Register reg)) = refl
denied_target said _ = refl

plain : (target : Target) → ((target_said target).denial ≡ 0) × ((target_said target).reserved ≡ 0)
plain (targets.Dram row) = (refl, refl)
plain _ = (refl, refl)

not_reserved : (target : Target) (denial : Option Denial) → (with_denial (target_said target) denial).reserved ≡ 0
not_reserved target denial = grind (arith, nat_tests, plain target)

denial_back : (target : Target) (denial : Option Denial) → denial_recorded (part_said target denial) ≡ Some denial
unfolding denial_recorded part_said
denial_back target denial = grind (arith, nat_tests, plain target)

pub part_back : (part : Part) → FitsPart part → part_recorded (of_part part) ≡ Some part
unfolding part_recorded part_said
part_back part fits =
    rw (
      not_reserved part.target part.denial,
      denied_target (target_said part.target) part.denial,
      target_back part.target fits.0,
      denial_back part.target part.denial,
    ) refl

pub area_back : (area : Area) → area_recorded (area_said area) ≡ Some area
unfolding area_recorded
area_back (areas.Dram row) = refl
area_back _ = refl
