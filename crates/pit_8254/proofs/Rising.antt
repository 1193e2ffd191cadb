-- When OUT next rises.
use Rattle.std.proofs.Common.{◌≡◌, ◌≢◌, ℕ, ◌+◌, ◌-◌, ◌<◌, ◌≤◌, inr, Bool, true, false, Option, Some, None, arith}
use Rattle.std.proofs.lemmas.Bool.Decides.{nat_tests}
use Rattle.std.proofs.lemmas.Bool.{cases_lt}
use Rattle.device_spec.specs.Pit.{CounterState, PitState, is_periodic, out_of, pulses}
use Rattle.device_spec.specs.PitLaws.{pulses_of}
use Rattle.device_spec.proofs.PitPulses.{counters_apart}
use Rattle.pit_8254.specs.Quiet.{rises_of, most_count, every_pulse, quiet_pulses}
use Rattle.pit_8254.specs.Runs.{IsSettled, IsAtPeriod, IsPart}
use Rattle.pit_8254.specs.NextRise.{RisesAt, IsNextRise, IsFirstRise, IsPulseEdge}
use Rattle.pit_8254.specs.declared.counting.running.Run.{Run}
use Rattle.pit_8254.specs.declared.counting.rising.Edge.{Edge}
use Rattle.pit_8254.proofs.Quiet.{quietly}
use Rattle.pit_8254.proofs.Runs.{add_up}
use Rattle.pit_8254.proofs.Edges.{edge, edge_is, AreQuiet, ends, comes, strobes}

-- ---- pulses at which OUT does not rise

no_fewer : (gate : Bool) (n m : ℕ) (c : CounterState) → n ≤ m → rises_of gate n c ≤ rises_of gate m c
no_fewer gate n m c h = grind (arith, nat_tests, add_up gate n (m - n) c)

-- n pulses lead from one state to another, and OUT rises at none of them
pub record NoRiseIn (gate : Bool) (n : ℕ) (from to : CounterState) : Type 0 where
  pub state : to ≡ pulses_of gate n from
  pub none : rises_of gate n from ≡ 0

pub never_later : {gate : Bool} {n : ℕ} {c d : CounterState} → NoRiseIn gate n c d → IsFirstRise gate d None →
    IsFirstRise gate c None
never_later {gate} {n} {c} {d} p never = λ m.
    grind (arith, nat_tests, no_fewer gate m n c, add_up gate n (m - n) c, never (m - n))

pub rises_after : {gate : Bool} {n : ℕ} {k : ℕ} {c d : CounterState} → NoRiseIn gate n c d →
    IsFirstRise gate d (Some k) → IsFirstRise gate c (Some (n + k))
rises_after {gate} {n} {k} {c} {d} p is = grind (arith, nat_tests, add_up gate n k c, add_up gate n (k - 1) c)

-- the first pulse
pub first_pulse : {gate : Bool} {a b : CounterState} {p q : Run} → IsPart gate a b p q → p.left ≡ 1 → p.rose ≡ 0 →
    q.left ≡ 0 → (0 < q.rose → IsFirstRise gate a (Some 1)) × (q.rose ≡ 0 → NoRiseIn gate 1 a b)
unfolding rises_of
first_pulse part one new done = grind (arith, nat_tests)

-- ---- an edge

is_edge : {gate : Bool} {c d : CounterState} {e : Edge} → IsPulseEdge gate c d e → d ≡ edge gate c
is_edge is = grind (arith, nat_tests, edge_is)

pub edge_rises : {gate : Bool} {c d : CounterState} {e : Edge} → IsPulseEdge gate c d e → e.rises ≡ true →
    IsFirstRise gate c (Some e.pulses)
edge_rises {gate} {c} {e = e} is rises =
    grind (arith, nat_tests, edge_is gate e.pulses c is.pulses, quietly gate (quiet_pulses gate c) c)

pub edge_passes : {gate : Bool} {c d : CounterState} {e : Edge} → IsPulseEdge gate c d e → e.rises ≡ false →
    NoRiseIn gate e.pulses c d
edge_passes {gate} {c} {e = e} is rises = grind (arith, nat_tests, edge_is gate e.pulses c is.pulses)

pub never : (gate : Bool) (c : CounterState) → c.element ≤ most_count → quiet_pulses gate c ≡ every_pulse →
    IsFirstRise gate c None
never gate c small all = λ n. (quietly gate n c (inr (small, all))).1

-- how many are quiet, where not all are
pub few_quiet : (gate : Bool) (c : CounterState) → c.element ≤ most_count → quiet_pulses gate c ≢ every_pulse →
    quiet_pulses gate c < most_count
unfolding quiet_pulses
few_quiet gate c small h = grind (arith, nat_tests)

-- ---- after edges at which OUT does not rise

-- a period begins, where OUT is 1
pub begins_period : {gate : Bool} {a b : CounterState} {e : Edge} → IsPulseEdge gate a b e → is_periodic a.mode ≡ true →
    IsSettled a.mode gate a → b.out ≡ true → IsAtPeriod gate b
begins_period {gate} {a} is periodic s out = grind (arith, nat_tests, comes gate a periodic s, is_edge is)

pub all_quiet : {gate : Bool} {a b d : CounterState} {e f : Edge} → IsPulseEdge gate a b e → IsPulseEdge gate b d f →
    f.rises ≡ false → (is_periodic a.mode ≡ true → b.out ≡ false) → IsSettled a.mode gate a → AreQuiet gate d
all_quiet {gate} {a} one two quiet low s =
    grind (arith, nat_tests, is_edge one, is_edge two, ends gate a, comes gate a, strobes gate a)

-- ---- the chip

rises_there : (c : CounterState) (n : ℕ) → 1 ≤ n → rises_of true (n - 1) c ≡ 0 → rises_of true n c ≡ 1 →
    ((pulses_of true (n - 1) c).out ≡ false) × ((pulses_of true n c).out ≡ true)
unfolding rises_of pulses_of
rises_there c n some before now = grind (arith, nat_tests)

rise_counts : (p : PitState) (n : ℕ) → RisesAt p n → 1 ≤ rises_of true n p.counter0
unfolding rises_of pulses_of out_of
rise_counts p n is = grind (arith, nat_tests, counters_apart n p, counters_apart (n - 1) p)

pub next_rise : (p : PitState) (answer : Option ℕ) → IsFirstRise true p.counter0 answer → IsNextRise p answer
unfolding out_of
next_rise p answer rises = grind (arith, nat_tests, rise_counts, rises_there, counters_apart, cases_lt, no_fewer)
