-- A pulse settles a counter.
use Rattle.std.proofs.Common.{◌≡◌, Bool, refl, arith}
use Rattle.std.proofs.lemmas.Bool.Decides.{nat_tests}
use Rattle.device_spec.specs.Pit.{Mode, TerminalCount, OneShot, RateGenerator, SquareWave, SoftwareStrobe}
use Rattle.device_spec.specs.Pit.{HardwareStrobe, CounterState, load, count_down, count_to_end, count_to_reload}
use Rattle.device_spec.specs.Pit.{count_half, count_to_strobe, pulse_by_mode, pulse}
use Rattle.pit_8254.specs.Quiet.{HasCount}
use Rattle.pit_8254.specs.Runs.{IsSettled}

settle : (mode : Mode) (gate : Bool) (c : CounterState) → c.mode ≡ mode →
    HasCount c.mode c.count c.load_asked c.started → IsSettled mode gate (pulse gate c)
unfolding pulse pulse_by_mode count_to_end count_to_reload count_half count_to_strobe count_down load
settle TerminalCount gate c m kept = grind (arith, nat_tests)
settle OneShot gate c m kept = grind (arith, nat_tests)
settle RateGenerator gate c m kept = grind (arith, nat_tests)
settle SquareWave gate c m kept = grind (arith, nat_tests)
settle SoftwareStrobe gate c m kept = grind (arith, nat_tests)
settle HardwareStrobe gate c m kept = grind (arith, nat_tests)

pub pulse_settles : (gate : Bool) (c : CounterState) → HasCount c.mode c.count c.load_asked c.started →
    IsSettled (pulse gate c).mode gate (pulse gate c)
pulse_settles gate c kept = grind (arith, nat_tests, settle c.mode gate c refl kept)
