use Rattle.bus_master.proofs.PieceLemmas.{comes_to_the_transfer}
use Rattle.bus_master.proofs.pieces.law_pieces.Goals as goal

pub returns : goal.returns
returns c = record { whole = comes_to_the_transfer }
