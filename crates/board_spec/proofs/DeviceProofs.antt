-- What an event leaves of each device, the levels of lines whose drivers stayed, and what the pair has seen of them.
use Rattle.std.proofs.Common.{arith, ◌≡◌, ℕ, Bool, List, [], ◌∷◌, Option, refl, ap, map, option_map, zero, suc, ◌∙◌}
use Rattle.board_base.specs.declared.target.Dev.TheVariants.{Pit}
use Rattle.device_spec.specs.Pit.{PitState, out_of, set_gate2, pulses}
use Rattle.device_spec.specs.Ata.State.{Disk}
use Rattle.device_spec.specs.Pair.{Pair, pair_at_reset, pair_after_lines, levels_at_power_on}
use Rattle.board_spec.specs.Setup.{Setup}
use Rattle.board_spec.specs.Devices.{wire_of, irq_of, timer_after, clock_of, disk_with, triggers_of, timer_of, plain_of}
use Rattle.board_spec.specs.Interrupts.{routes_of, levels_with, pair_after, levels_of, elcr_of, pair_pulsed}
use Rattle.board_spec.specs.Interrupts.{pair_stepped, pair_reset_or_after, pair_of}
use Rattle.board_spec.specs.Answer.{IsAnswer}
use Rattle.board_spec.specs.DeviceLaws.{NamesDevice, ActsOnPair, PairHasSeen, PairStays, MemoryLeavesDevices}
use Rattle.device_spec.specs.Levels.{levels_where}
use Rattle.device_spec.specs.PicLaws.{SameLevelsAgain}
use Rattle.board_spec.specs.Registers.{byte_of}
use Rattle.board_spec.specs.declared.event.Event.{Event}
use Rattle.board_spec.specs.declared.event.Reply.{Reply}
use Rattle.board_spec.specs.declared.event.Entry.{Entry}
use Rattle.board_spec.specs.declared.event.Event.TheVariants.{Pulses}
use Rattle.board_spec.proofs.LineProofs.{first_levels}
use Rattle.std.proofs.lemmas.Bool.Decides.{nat_tests}

-- ---- an event whose reply names another device

pub out-alone : (setup : Setup) (before : List Entry) (event : Event) (reply : Reply) (timer : PitState) →
    IsAnswer setup before event reply → ¬ NamesDevice reply Pit →
    out_of 0 (timer_after event reply timer) ≡ out_of 0 timer
unfolding set_gate2 out_of
out-alone setup before event reply timer answer apart = grind (arith, nat_tests)

-- ---- the pair

pub pair-alone :
    (event : Event) (reply : Reply) (pair : Pair) → ¬ ActsOnPair event reply → pair_after event reply pair ≡ pair
pair-alone event reply pair apart = grind arith

-- ---- the levels

pub map-same : {X Y : Type 0} (f g : X → Y) (xs : List X) → ((x : X) → f x ≡ g x) → map f xs ≡ map g xs
map-same f g [] same = refl
map-same f g (x ∷ xs) same = rw (same x, map-same f g xs same) refl

pub disk_of-same : (bytes : Option (List ℕ)) (f g : List ℕ → Disk) → ((b : List ℕ) → f b ≡ g b) →
    option_map f bytes ≡ option_map g bytes
disk_of-same bytes f g same = grind arith

-- two histories whose lines have the same drivers
pub record SameDrivers (setup : Setup) (history other : List Entry) (timer timer' : PitState) : Type 0 where
  pub out : out_of 0 timer ≡ out_of 0 timer'
  pub clock : clock_of history ≡ clock_of other
  pub disk : (bytes : List ℕ) → disk_with bytes history ≡ disk_with bytes other
  pub wires : (dev : ℕ) → wire_of history dev ≡ wire_of other dev
  pub lines : (line : ℕ) → irq_of history line ≡ irq_of other line
  pub routes : routes_of setup history ≡ routes_of setup other

pub levels-same : (setup : Setup) (history other : List Entry) (timer timer' : PitState) →
    SameDrivers setup history other timer timer' → levels_with setup history timer ≡ levels_with setup other timer'
unfolding levels_with
levels-same setup history other timer timer' same = grind (arith, nat_tests, map-same, disk_of-same)

-- ---- pulses

-- what pulses leave
module _ (before : List Entry) (entry : Entry) (count : ℕ) (is : entry.event ≡ Pulses count) where
  pub timer-pulsed : timer_of (entry ∷ before) ≡ pulses count (timer_of before)
  unfolding timer_of
  timer-pulsed = rw is refl

  pub triggers-pulsed : triggers_of (entry ∷ before) ≡ triggers_of before
  unfolding triggers_of
  triggers-pulsed = rw is refl

pub levels-pulsed : (setup : Setup) (before : List Entry) (entry : Entry) (count : ℕ) (timer : PitState) →
    entry.event ≡ Pulses count → levels_with setup (entry ∷ before) timer ≡ levels_with setup before timer
unfolding clock_of disk_with wire_of irq_of byte_of
levels-pulsed setup before entry count timer is = grind (arith, nat_tests, levels-same)

-- the lines after pulses
levels-after : (setup : Setup) (before : List Entry) (entry : Entry) (count : ℕ) → entry.event ≡ Pulses count →
    levels_of setup (entry ∷ before) ≡ levels_with setup before (pulses count (timer_of before))
levels-after setup before entry count is = rw (timer-pulsed before entry _ is) (levels-pulsed setup before entry _ _ is)

pub elcr-same : (history other : List Entry) → triggers_of history ≡ triggers_of other → elcr_of history ≡ elcr_of other
elcr-same history other same = rw same refl

pub pair-pulsed : (setup : Setup) (before : List Entry) (entry : Entry) (count : ℕ) → entry.event ≡ Pulses count →
    pair_of setup (entry ∷ before) ≡ pair_pulsed setup before count (pair_of setup before)
unfolding pair_of
pair-pulsed setup before entry count is = rw is refl

-- ---- what the pair has seen

abbrev HasSeen : Setup → List Entry → Pair → Type 0
HasSeen setup history pair = pair_after_lines pair (levels_of setup history) (elcr_of history) ≡ pair

seen_pulsed : (again : SameLevelsAgain) (setup : Setup) (before : List Entry) (entry : Entry) (count : ℕ) →
    entry.event ≡ Pulses count → HasSeen setup before (pair_of setup before) → HasSeen setup (entry ∷ before)
    (pair_pulsed setup before count (pair_of setup before))
unfolding pair_pulsed pulses
seen_pulsed again setup before entry zero is seen =
    rw (levels-after setup before entry 0 is, triggers-pulsed before entry 0 is) seen
seen_pulsed again setup before entry (suc k) is seen =
    let pair : Pair = pair_pulsed setup before k (pair_of setup before) in
    rw (levels-after setup before entry (suc k) is, triggers-pulsed before entry (suc k) is)
    (again pair (levels_with setup before (pulses (suc k) (timer_of before))) (elcr_of before))

seen_stepped : (again : SameLevelsAgain) (setup : Setup) (before : List Entry) (entry : Entry) (event : Event) →
    entry.event ≡ event → HasSeen setup before (pair_of setup before) → HasSeen setup (entry ∷ before)
    (pair_stepped setup entry before event (pair_of setup before))
seen_stepped again setup before entry (Pulses count) is seen = seen_pulsed again setup before entry count is seen
seen_stepped again setup before entry event is seen =
    again (pair_reset_or_after setup entry before (pair_of setup before)) (levels_of setup (entry ∷ before))
    (elcr_of (entry ∷ before))

pub pair_has_seen : SameLevelsAgain → PairHasSeen
unfolding pair_of levels_where triggers_of
pair_has_seen again setup [] =
    ap (λ (l : List Bool). pair_after_lines (pair_at_reset levels_at_power_on) l (elcr_of [])) (first_levels setup)
    ∙ refl
pair_has_seen again setup (entry ∷ before) = seen_stepped again _ _ entry _ refl (pair_has_seen again setup before)

-- ---- an entry that moves no line

pub pair_stays : SameLevelsAgain → PairStays
unfolding pair_of triggers_of
pair_stays again setup before entry soft apart lines = grind (arith, nat_tests, pair_has_seen)

-- ---- memory accesses and looks

pub memory_leaves_devices : SameLevelsAgain → MemoryLeavesDevices
unfolding byte_of timer_of plain_of triggers_of clock_of disk_with wire_of irq_of
memory_leaves_devices again setup before entry is = grind (arith, nat_tests, map-same, levels-same, pair_stays)
