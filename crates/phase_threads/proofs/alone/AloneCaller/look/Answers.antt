use Rattle.std.proofs.Common.{[], refl, ◌∙◌}
use Rattle.board_prelude.proofs.{map_writes_of, registers_after}
use Rattle.board_live.proofs.Standing.{stands_after}
use Rattle.phase_threads.proofs.alone.AloneCaller.look.Goals as goal

pub returns-clause-looked : goal.returns-clause-looked
returns-clause-looked c =
    let board = c.args.self.now.board in
    record {
      later = ([], refl);
      saw = record {
        version = c.version.ensures.version ∙ c.map-map.ensures.version;
        span = c.find-span.ensures.span board.setup
            (registers_after board.setup (map_writes_of board.setup board.entries))
            (stands_after board.setup board.entries _ c.map-map.ensures.stands);
      };
    }
