use Rattle.std.proofs.Common.{refl}
use Rattle.board_commands.proofs.Exact.{exact}
use Rattle.command_words.specs.Words.{command_said}
use Rattle.board_commands.proofs.command.board.Goals as goal

pub returns-clause-exact : goal.returns-clause-exact
returns-clause-exact g c =
    exact c.law_one_status.ensures.one (command_said c.args.words.now) (g.S.Shelf.files c.args.shelf.now) _ _ _ refl
    c.run_words.ensures.caused
