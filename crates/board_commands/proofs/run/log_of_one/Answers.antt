use Rattle.std.proofs.lemmas.Result.{IfOk-weaker}
use Rattle.scripts.specs.Script.{said_of}
use Rattle.command_texts.specs.Replays.{IsReplayText}
use Rattle.board_commands.specs.Texts.{IsRunText}
use Rattle.board_commands.proofs.OwnPlaces.{run_by_one}
use Rattle.board_commands.proofs.run.log_of_one.Goals as goal

pub returns : goal.returns
returns c =
    let setup = c.args.board.setup in let script = said_of c.args.script.now in
    record {
      text = IfOk-weaker c.log_of_replay.result (IsReplayText setup script) (IsRunText setup script)
          (λ text. run_by_one setup script c.args.actor text c.requires.one) c.log_of_replay.ensures.text;
    }
