use Rattle.command_words.specs.Commands.{said_by}
use Rattle.board_commands.proofs.Answers.{read_answer}
use Rattle.board_commands.proofs.command.answer.Goals as goal

pub returns-clause-answer : goal.returns-clause-answer
returns-clause-answer g c =
    read_answer (said_by c.args.command.now) _ c.in_ok-read.read c.in_ok-read.ensures.read c.text_of.result
    c.in_ok-read.ensures.quiet c.text_of.ensures.text c.text_of.ensures.done c.text_of.ensures.stops
