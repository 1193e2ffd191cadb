-- What a history leaves, in the words that contracts see.
use Rattle.std.proofs.Common.{◌≡◌, ℕ, List, sym, subst}
use Rattle.board_prelude.proofs.{Event, Entry, Setup, IsInRange}
use Rattle.board_chipset.specs.declared.state.State.{State}
use Rattle.board_chipset.specs.Kept.{CanDo, IsStateOf, IsSound}
use Rattle.board_chipset.specs.Chipset.{Running, IsLeftBy}

pub left_by : {setup : Setup} {history : List Entry} {state : State} → IsStateOf setup history state →
    IsLeftBy (record { setup = setup; state = state }) history
unfolding IsLeftBy
left_by is = is

-- the state of a chipset, where the chipset is seen as this
pub state_of : {chipset : Running} {setup : Setup} {state : State} {history : List Entry} →
    record { setup = setup; state = state } ≡ chipset → IsLeftBy chipset history → IsStateOf setup history state
unfolding IsLeftBy
state_of same left = rw (← same) at left

pub can_do : {chipset : Running} {setup : Setup} {state : State} {rom : List ℕ} {event : Event} →
    record { setup = setup; state = state } ≡ chipset → setup.rom ≡ rom →
    IsSound setup state → IsInRange chipset.setup event → CanDo state rom event
can_do {setup = setup} {event = event} same image sound in_range = record {
  kept = record { setup = setup; sound = sound; image = image };
  in_range = subst (λ (it : Running). IsInRange it.setup event) (sym same) in_range;
}
