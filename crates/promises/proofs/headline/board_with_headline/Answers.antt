use Rattle.std.proofs.Common.{map, string_bytes}
use Rattle.promises.proofs.Headlines.{puts_text}
use Rattle.promises.proofs.headline.board_with_headline.Goals as goal

pub returns : goal.returns
returns g c = record {
  done = λ command files before now there are done told took takes.
      puts_text files before now _ _ told took takes (map string_bytes c.args.words.now) command c.board.result there
      are c.board.ensures.caused done;
}
