use Rattle.command_texts.proofs.MapWrites.{entry_is_first}
use Rattle.command_texts.proofs.laws.law_entry_of_version.Goals as goal

pub returns : goal.returns
returns c = record { first = entry_is_first }
