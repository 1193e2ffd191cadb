-- How many pulses come until OUT next rises.
use Rattle.std.specs.Prelude.{ℕ, ◌≡◌, ◌≢◌, ◌+◌, ◌-◌, ◌≤◌, Bool, true, false, not, ◌&&◌, Option, Some, None}
use Rattle.device_spec.specs.Pit.{CounterState, PitState, out_of, pulses}
use Rattle.device_spec.specs.PitLaws.{pulses_of}
use Rattle.pit_8254.specs.Quiet.{every_pulse, quiet_pulses, rises_of}
use Rattle.pit_8254.specs.declared.counting.rising.Edge.{Edge}

-- OUT of counter 0 rises at the n-th of the pulses that come next: it is 0 before that pulse, and 1 after it
abbrev pub RisesAt : PitState → ℕ → Type 0
RisesAt p n = (1 ≤ n) × (out_of 0 (pulses (n - 1) p) ≡ false) × (out_of 0 (pulses n p) ≡ true)

-- the first pulse at which it rises; None where it rises at none of them
abbrev pub IsNextRise : PitState → Option ℕ → Type 0
IsNextRise p None = (n : ℕ) → ¬ RisesAt p n
IsNextRise p (Some n) = RisesAt p n × ((k : ℕ) → RisesAt p k → n ≤ k)

-- ---- of one counter

-- the same, by how often OUT rises
abbrev pub IsFirstRise : Bool → CounterState → Option ℕ → Type 0
IsFirstRise gate c None = (n : ℕ) → rises_of gate n c ≡ 0
IsFirstRise gate c (Some n) = (1 ≤ n) × (rises_of gate (n - 1) c ≡ 0) × (rises_of gate n c ≡ 1)

-- the pulse after those that are quiet
pub record IsPulseEdge (gate : Bool) (from to : CounterState) (edge : Edge) : Type 0 where
  pub pulses : edge.pulses ≡ quiet_pulses gate from + 1
  pub rises : edge.rises ≡ (to.out && not from.out)
  pub state : to ≡ pulses_of gate (quiet_pulses gate from + 1) from
  pub some : quiet_pulses gate from ≢ every_pulse

-- where all that come are quiet, OUT never rises
abbrev pub IsNextPulseEdge : Bool → CounterState → CounterState → Option Edge → Type 0
IsNextPulseEdge gate from to None = (n : ℕ) → rises_of gate n from ≡ 0
IsNextPulseEdge gate from to (Some edge) = IsPulseEdge gate from to edge
