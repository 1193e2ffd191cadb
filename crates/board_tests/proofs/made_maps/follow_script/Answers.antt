use Rattle.std.proofs.Common.{ℕ, ◌+◌, List, take, drop, sym, subst, ◌∙◌, ap}
use Rattle.board_prelude.specs.{Statement}
use Rattle.board_prelude.proofs.{Setup, IsInRange, in_file_order}
use Rattle.board_core.specs.Steps.{AreInRange}
use Rattle.scripts.specs.Script.{said_of}
use Rattle.script_spec.specs.Phases.{lists_of}
use Rattle.log_check.proofs.PhaseLists.{phases_cut, all_of_phase}
use Rattle.command_texts.proofs.Statements.{in_range}
use Rattle.board_tests.proofs.made_maps.follow_script.Goals as goal

pub follow-requires : goal.follow-requires
follow-requires g c =
    let i : ℕ = c.loop-phase.phase-index in
    let phases = c.deref-phase-items.result.now in
    let all = in_range c.args.board.now.setup (said_of c.args.script.now) c.requires.in_range c.requires.cards in
    let own =
    all_of_phase (λ statement. IsInRange c.args.board.now.setup statement.event) (lists_of (take i phases))
    c.phase-item.result.items
    (lists_of (drop (i + 1) phases))
    (subst (λ (ps : List (List Statement)). AreInRange c.args.board.now.setup (in_file_order ps))
    (ap lists_of (sym c.deref-phase-items.ensures.value)
    ∙ phases_cut phases i c.phase-item.result c.loop-phase-test.true c.phase-item.is) all) in
    record {
      in_range =
          subst (λ (setup : Setup). AreInRange setup c.deref.result.now) (sym c.loop-phase.invariant)
          (subst (AreInRange c.args.board.now.setup) (sym c.deref.ensures.value) own);
    }
