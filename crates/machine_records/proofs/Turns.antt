-- Steps in turn: a value that is set behind those that were told.
use Rattle.std.proofs.Common.{◌≡◌, ℕ, zero, suc, ◌+◌, ◌≤◌, false, List, set, ◌∙◌, subst, add-one, arith}
use Rattle.std.proofs.lemmas.List.{get_or-set_other}
use Rattle.machine.specs.Machines.{MachineState}
use Rattle.machine_records.specs.declared.event.EventRecord.{EventRecord}
use Rattle.machine_records.specs.declared.reply.ReplyRecord.{ReplyRecord}
use Rattle.machine_records.specs.Strings.{AreInTurn, GoesOn, IsStep, IsValue, asks_back, reads}

-- the values that were told stay, where another behind them is set
pub values_kept : (port bytes : ℕ) (values : List ℕ) (index value : ℕ) (old : MachineState) (first : ReplyRecord)
    (done : ℕ) (new : MachineState) (last : ReplyRecord) → done ≤ index → AreInTurn (reads port bytes)
    (IsValue values) old first done new last → AreInTurn (reads port bytes)
    (IsValue (set values index value)) old first done new last
values_kept port bytes values index value old first zero new last small steps = steps
values_kept port bytes values index value old first (suc k) new last small steps = (
  steps.0,
  steps.1,
  values_kept port bytes values index value old first k steps.0 steps.1 (omega (arith, small)) steps.2,
  steps.3,
  record { step = steps.4.step; told = get_or-set_other values index k value 0 (omega (arith, small)) ∙ steps.4.told },
)

-- one step more, by a record of the access that is asked for
pub one_more : (asked : ℕ → EventRecord) (Holds : ℕ → ReplyRecord → Type 0) (old : MachineState) (first : ReplyRecord)
    (k : ℕ) (middle : MachineState) (reply : ReplyRecord) (new : MachineState) (last : ReplyRecord)
    (event : EventRecord) → AreInTurn asked Holds old first k middle reply → GoesOn asked Holds k reply →
    event ≡ asked k → IsStep event middle new last → Holds k last → AreInTurn asked Holds old first (k + 1) new last
one_more asked Holds old first k middle reply new last event turn goes said step told =
    let next = subst (λ (event : EventRecord). IsStep event middle new last) said step in
    rw add-one (middle, reply, turn, goes, record { step = next; told = told })

pub goes_on : (asked : ℕ → EventRecord) (Holds : ℕ → ReplyRecord → Type 0) (k : ℕ) (last : ReplyRecord) →
    asks_back last ≡ false → GoesOn asked Holds (k + 1) last
goes_on asked Holds k last quiet = rw add-one quiet
