-- The state after an access to memory.
use Rattle.std.proofs.Common.{◌≡◌, ℕ, true, false, List, None, refl, Bool, IsTrue, ◌↔◌, arith, [], ◌∷◌, ◌∙◌, ap, map}
use Rattle.std.proofs.Common.{All}
use Rattle.board_prelude.proofs.{Kind, Write, Part, Setup, is_write, nat_tests, Bytes, IsBusAccess, get_or-map}
use Rattle.board_prelude.proofs.{length-map, All-head, All-tail, All-cons, WideAccess, Cell, parts_put, IsPart}
use Rattle.addr_decode.specs.MapRegs.{StandsFor}
use Rattle.board_stores.specs.Ready.{IsReady}
use Rattle.board_stores.specs.Targets.{part_in}
use Rattle.board_stores.specs.Cycles.{accesses, answers, AreReady}
use Rattle.board_chipset.specs.declared.state.State.{State}
use Rattle.board_chipset.specs.Kept.{IsState, IsSound}
use Rattle.board_chipset.proofs.HeldTargets.{ready}
use Rattle.board_base.specs.declared.access.Access.{Access}
use Rattle.board_stores.specs.declared.cut.Cycle.{Cycle}
use Rattle.board_chipset.proofs.StateSteps.{sound_put}
use Rattle.board_stores.proofs.MemoryLemmas.{part_answered}

pub writes_when : {kind : Kind} {writes known : Bool} → IsTrue writes ↔ (kind ≡ Write) → writes ≡ known →
    is_write kind ≡ known
writes_when is same = grind (arith, nat_tests)

-- an access to a state of a board can be done as it is decoded there
pub ready_in : {state : State} {rom : List ℕ} {access : Access} {answer : Part} → IsState state rom →
    IsBusAccess (is_write access.kind) access.addr access.width access.value →
    ((setup : Setup) (bytes : Bytes) → StandsFor setup bytes state.registers.map.regs → setup.rom ≡ rom →
    answer ≡ part_in setup bytes access) → IsReady rom state.stores.contents access answer
ready_in kept bus decoded =
    ready kept.sound kept.image bus
    (decoded kept.setup kept.sound.registers.bytes kept.sound.registers.kept.map kept.image)

-- ---- wide accesses: their cycles can be done

-- the cycles of a wide access
module _
    {setup : Setup} {state : State} {rom : List ℕ} (kept : IsSound setup state)
    (image : setup.rom ≡ rom) (access : WideAccess) where
  pub all_ready : (cycles : List Cycle) → All (IsPart access) (accesses cycles) →
      answers cycles ≡ map (part_in setup kept.registers.bytes) (accesses cycles) →
      AreReady rom state.stores.contents cycles
  all_ready [] each is = λ k d within. absurd (omega arith)
  all_ready (cycle ∷ later) each is =
      All-cons (λ (it : Cycle). IsReady rom state.stores.contents it.access it.answer) cycle later
      (ready kept image (All-head (IsPart access) cycle.access (accesses later) each).legal cc)
      (all_ready later (All-tail (IsPart access) cycle.access (accesses later) each) cc)

pub all_write : (access : WideAccess) (cycles : List Cycle) → is_write access.kind ≡ true → All (IsPart access)
    (accesses cycles) → All (λ cycle. is_write cycle.access.kind ≡ true) cycles
all_write access cycles writes each =
    λ k d within. let part = each k d.access (omega (arith, within, length-map cycles (λ (it : Cycle). it.access))) in
    let it = rw (get_or-map (λ (it : Cycle). it.access) cycles k d d.access within) at part in
    ap is_write it.kind ∙ writes

-- parts that read put nothing
pub parts_none : (access : WideAccess) (parts : List Access) (replies : List Part) (cell : Cell) →
    is_write access.kind ≡ false → All (IsPart access) parts → parts_put parts replies cell ≡ None
unfolding parts_put
parts_none access (part ∷ later) (reply ∷ replies) cell reads each =
    let first = All-head (IsPart access) part later each in
    let here : is_write part.kind ≡ false = ap is_write first.kind ∙ reads in
    rw (here, parts_none access later replies cell reads (All-tail (IsPart access) part later each)) refl
parts_none access _ _ cell reads each = refl

-- `answered` is proved by these
pub ruleset answered_rules = (sound_put, writes_when, ready_in, part_answered)
