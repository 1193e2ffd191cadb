-- Events for the devices alone: they write no register and store nothing.
use Rattle.board_prelude.proofs.{nat_tests, IsAnswer, IsInRange, outside_answer, Applied, Stimulus, stimulus_form}
use Rattle.board_prelude.proofs.{applied_by, event_applied, All-head, All-tail, Event, Entry, Setup, FittedCard, IsCard}
use Rattle.board_prelude.proofs.{IsSetup}
use Rattle.std.proofs.Common.{◌≡◌, true, List, [], ◌∷◌, None, sym, ◌∙◌, subst, ℕ, ◌==◌, All, find, Bool, Some, IfSome}
use Rattle.std.proofs.Common.{arith}
use Rattle.board_spec.specs.declared.stimulus.Stimulus.TheVariants as stimuli
use Rattle.board_devices.specs.Devices.{DevicesValue, AreDevicesOf, AreRoutesOf}
use Rattle.board_devices.specs.Events.{Asks}
use Rattle.board_chipset.specs.declared.state.State.{State}
use Rattle.board_chipset.specs.Kept.{IsStateOf}
use Rattle.board_chipset.specs.Ports.{Writes}
use Rattle.board_chipset.specs.Steps.{IsForDevices}
use Rattle.board_chipset.proofs.StateSteps.{soft, devices_move, writes_none}

-- the state after such an event, by what it makes of the devices
pub outside_done :
    {setup : Setup} {history : List Entry} {entry : Entry} {event : Event} {old : State} {devices : DevicesValue} →
    entry.event ≡ event → IsForDevices event → IsStateOf setup history old →
    (Asks history entry event → AreRoutesOf setup (entry ∷ history) old.registers.south.routes →
    AreDevicesOf setup (entry ∷ history) devices) →
    IsStateOf setup (entry ∷ history) (record old { devices = devices })
outside_done {setup} {history} {entry} {event} is for_devices kept after =
    let none : Writes setup history entry.event None None None =
    writes_none setup history entry.event (λ access same. subst IsForDevices (sym is ∙ same) for_devices) in
    devices_move kept none (λ cell. rw is (grind (arith, nat_tests)))
    (after (record { event_is = is; soft = soft none }))

-- ---- a wire leads from a card that is fitted

pub found_in : (cards : List FittedCard) (dev : ℕ) → All IsCard cards →
    IfSome (find (λ card. card.dev == dev) cards) (λ card. IsCard card × (card.dev ≡ dev))
found_in [] dev each = tt
found_in (first ∷ later) dev each =
    let rest = found_in later dev (All-tail IsCard first later each) in
    grind (arith, nat_tests, All-head IsCard first later each)

-- ---- what a stimulus applies

pub applied_is : (event : Event) (said : Applied) → applied_by event ≡ Some said →
    event ≡ event_applied said.stimulus said.number said.on
applied_is event said is = grind (arith, nat_tests)

-- it is for the devices, and what answers it is in the table
pub applied_answer : (setup : Setup) (history : List Entry) (one : Stimulus) (number : ℕ) (on : Bool) →
    IsForDevices (event_applied one number on)
    × IsAnswer setup history (event_applied one number on) (outside_answer (stimulus_form one).answers)
applied_answer setup history one number on = grind (arith, nat_tests)

-- the number that a level follows is one that a script can give
pub level_number : (setup : Setup) (one : Stimulus) (number : ℕ) (on : Bool) → IsSetup setup →
    IsInRange setup (event_applied one number on) → (stimulus_form one).has_level ≡ true →
    (stimulus_form one).numbers number ≡ true
level_number setup one number on fits is level =
    grind (arith, nat_tests, found_in setup.cards number fits.cards.each)
