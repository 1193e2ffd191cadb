-- What a board did, put together, one phase of a script after another.
use Rattle.std.proofs.Common.{◌≡◌, List, [], ◌++◌, length, Result, OnOk, arith, OnErr, ℕ, ◌+◌, ◌<◌, ◌≤◌, take, get_or}
use Rattle.std.proofs.Common.{All, append-nil, length-append, max, ◌∷◌}
use Rattle.board_prelude.proofs.{nat_tests, take_more, length-map, length-reverse, Entry, Setup, IsReplayOf, Vec}
use Rattle.board_prelude.proofs.{Global, in_file_order}
use Rattle.board_prelude.specs.{Statement}
use Rattle.std.proofs.lemmas.List.{append_assoc}
use Rattle.board_core.specs.Kept.{Standing}
use Rattle.command_texts.specs.Done.{DidStatements}
use Rattle.script_spec.specs.Phases.{lists_of}
use Rattle.log_check.proofs.PhaseLists.{phases_more, statements_cut, few_so_far, all_in_phase}

pub done_none : (old new : Standing) → new.setup ≡ old.setup → new.entries ≡ old.entries → DidStatements old [] new
done_none old new setup entries = grind (arith, nat_tests, append-nil)

pub done_more : (old between new : Standing) (first later : List Statement) → DidStatements old first between →
    DidStatements between later new → DidStatements old (first ++ later) new
done_more old between new first later one two = grind (arith, nat_tests, append_assoc)

-- one statement of a list more
pub done_next : (statements : List Statement) (i : ℕ) (default : Statement) (old between new : Standing) →
    i < length statements → DidStatements old (take i statements) between →
    DidStatements between (get_or statements i default ∷ []) new → DidStatements old (take (i + 1) statements) new
done_next statements i default old between new within one two =
    rw (take_more statements i default within) (done_more _ _ _ _ _ one two)

-- ---- replays

-- a board that goes on after a replay
pub replay_goes_on : (setup : Setup) (old new : Standing) (steps statements : List Statement) → old.setup ≡ setup →
    IsReplayOf setup steps old.entries → DidStatements old statements new →
    IsReplayOf setup (steps ++ statements) new.entries
replay_goes_on setup old new steps statements is replay done = grind (arith, nat_tests)

-- what a fresh board did is the replay
pub done_is_replay : (old new : Standing) (statements : List Statement) → old.entries ≡ [] →
    DidStatements old statements new → IsReplayOf old.setup statements new.entries
done_is_replay old new statements fresh done = grind (arith, nat_tests)

pub replay_result :
    {T E : Type 0} (result : Result T E) (old new : Standing) (statements : List Statement) → old.entries ≡ [] →
    OnOk result (DidStatements old statements new) → OnOk result (IsReplayOf old.setup statements new.entries)
replay_result result old new statements fresh done = grind (arith, nat_tests, done_is_replay)

pub same_setup : {T E : Type 0} (result : Result T E) (old new : Standing) (statements : List Statement) →
    OnOk result (DidStatements old statements new) → OnErr result (new ≡ old) → new.setup ≡ old.setup
same_setup result old new statements done same = grind (arith, nat_tests)

pub length_of_replay : (setup : Setup) (statements : List Statement) (history : List Entry) →
    IsReplayOf setup statements history → length history ≡ length statements
length_of_replay setup statements history replay = grind (arith, nat_tests, length-map, length-reverse)

-- ---- one phase more

-- the statements of the phases before this one
abbrev pub said_before : List (Vec Statement Global) → ℕ → List Statement
said_before phases i = in_file_order (lists_of (take i phases))

-- what a phase of these statements adds
pub record Adds (phases : List (Vec Statement Global)) (i : ℕ) (statements : List Statement) : Type 0 where
  pub said : said_before phases (i + 1) ≡ said_before phases i ++ statements
  pub long : length (said_before phases (i + 1)) ≡ length (said_before phases i) + length statements
  pub few : length (said_before phases i) + length statements ≤ length (in_file_order (lists_of phases))

module _ {phases : List (Vec Statement Global)} {i : ℕ} {phase : Vec Statement Global} {statements : List Statement}
    (within : i < length phases) (is : phase ≡ get_or phases i phase) (same : statements ≡ phase.items) where
  pub phase_adds : Adds phases i statements
  phase_adds =
      let more = phases_more phases i phase within is in
      let few = few_so_far phases i phase within is in
      grind (arith, nat_tests, statements_cut, append-nil, length-append)

-- what holds of all statements holds of those of a phase
pub of_phase : (P : Statement → Type 0) (phases : List (Vec Statement Global)) (i : ℕ) (phase : Vec Statement Global)
    (statements : List Statement) → i < length phases → phase ≡ get_or phases i phase → statements ≡ phase.items →
    All P (in_file_order (lists_of phases)) → All P statements
of_phase P phases i phase statements within is same all = rw same (all_in_phase phases i phase within is P all)

-- before the first phase there is room for all
pub none_said :
    (old new : Standing) (count : ℕ) (phases : List (Vec Statement Global)) →
    new ≡ record old { spare = max old.spare count } → count ≡ length (in_file_order (lists_of phases)) →
    DidStatements old [] new × (length (in_file_order (lists_of phases)) ≤ new.spare)
none_said old new count phases is counted = grind (arith, nat_tests, done_none)
