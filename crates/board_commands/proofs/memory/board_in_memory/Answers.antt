use Rattle.board_outside.specs.Files.{file_named}
use Rattle.std.specs.Prelude.{Some}
use Rattle.command_words.specs.Words.{command_said}
use Rattle.board_commands.proofs.Exact.{always_exact}
use Rattle.board_commands.proofs.memory.board_in_memory.Goals as goal

pub returns-clause-exact : goal.returns-clause-exact
returns-clause-exact g c =
    always_exact c.board.result (command_said c.args.words.now) (Some (file_named c.args.shelf.now.files.items))
    c.board.ensures.exact
