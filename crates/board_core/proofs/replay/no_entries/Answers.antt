use Rattle.board_base.proofs.ZeroLemmas.{zero_at}
use Rattle.board_core.proofs.replay.no_entries.Goals as goal

pub returns : goal.returns
returns c = record { none = λ actor. zero_at 256 actor }
