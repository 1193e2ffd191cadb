use Rattle.std.proofs.Common.{◌≡◌, ℕ, List, [], ◌∷◌, get_or, refl, All, slice_index_or, flat_map, sym}
use Rattle.board_prelude.proofs.{Vec, Global, get_or_default, IsScripted, in_file_order, Setup}
use Rattle.board_prelude.specs.{Statement}
use Rattle.phase_threads.specs.Jobs.{IsStatement}
use Rattle.script_spec.specs.Phases.{lists_of}
use Rattle.log_check.proofs.PhaseLists.{all_in_phase}
use Rattle.scripts.specs.Script.{said_of}
use Rattle.board_commands.proofs.run.run_script.Goals as goal

-- the statements of each phase are in range
phases_in_range : (setup : Setup) (version cpus : ℕ) (phases : List (Vec Statement Global)) →
    All (IsScripted setup version cpus) (in_file_order (lists_of phases)) →
    All (λ phase. All (IsStatement setup cpus) phase.items) phases
phases_in_range setup version cpus phases all i d within =
    let phase : Vec Statement Global = get_or phases i d in
    let own : All (IsScripted setup version cpus) phase.items =
    all_in_phase phases i phase within (get_or_default phases i d phase within) (IsScripted setup version cpus) all in
    λ k e inside. let is : IsScripted setup version cpus (slice_index_or phase.items k e) = own k e inside in
    record { actor = is.actor; event = is.event }

listed_one_by_one :
    (phases : List (Vec Statement Global)) → in_file_order (lists_of phases) ≡ flat_map (λ phase. phase.items) phases
listed_one_by_one [] = refl
listed_one_by_one (phase ∷ later) = rw (listed_one_by_one later) refl

pub run_phases-requires-clause-in_range : goal.run_phases-requires-clause-in_range
run_phases-requires-clause-in_range g c = λ _ _.
    let script = said_of c.args.script in
    phases_in_range c.args.board.setup script.version script.cpus c.args.script.phases.items
    (c.requires.in_range.each c.args.board.setup c.requires.cards)

pub run_phases-requires-clause-statements : goal.run_phases-requires-clause-statements
run_phases-requires-clause-statements g c = λ _ _.
    rw (sym (listed_one_by_one c.args.script.phases.items)) c.requires.in_range.statements
