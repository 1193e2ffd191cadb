use Rattle.std.proofs.Common.{All, sym}
use Rattle.std.proofs.lemmas.List.Elements.{All-map}
use Rattle.board_prelude.proofs.{Vec, Global}
use Rattle.board_prelude.specs.{Statement}
use Rattle.board_commands.proofs.OwnPlaces.{IsSaidBy}
use Rattle.board_commands.proofs.run.log_of_run.Goals as goal

-- the statements of each list are of the processor, and so those of each phase
pub log_of_one-requires-clause-one : goal.log_of_one-requires-clause-one
log_of_one-requires-clause-one g c =
    All-map (All (IsSaidBy c.first_actor-only.result)) (λ (phase : Vec Statement Global). phase.items)
    c.args.script.phases.items (rw (sym c.deref-2.ensures.value) (c.are_by.ensures.by c.if-are_by.true))
