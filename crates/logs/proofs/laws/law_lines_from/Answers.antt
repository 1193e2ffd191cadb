use Rattle.logs.proofs.Parts.{lines_of_history, lines_of_parts}
use Rattle.logs.proofs.laws.law_lines_from.Goals as goal

pub returns-clause-whole : goal.returns-clause-whole
returns-clause-whole c = lines_of_history

pub returns-clause-parts : goal.returns-clause-parts
returns-clause-parts c = lines_of_parts
