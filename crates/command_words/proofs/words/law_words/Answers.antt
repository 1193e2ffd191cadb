use Rattle.command_words.proofs.WordLaws.{words_decide, one_command}
use Rattle.command_words.proofs.words.law_words.Goals as goal

pub returns-clause-decided : goal.returns-clause-decided
returns-clause-decided c = words_decide

pub returns-clause-one : goal.returns-clause-one
returns-clause-one c = one_command
