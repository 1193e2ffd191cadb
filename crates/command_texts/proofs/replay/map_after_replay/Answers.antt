use Rattle.std.proofs.lemmas.Bool.Decides.{nat_tests}
use Rattle.std.proofs.Common.{arith}
use Rattle.command_texts.proofs.PlayLemmas.{map_played}
use Rattle.command_texts.proofs.TransferTexts.{ok_then}
use Rattle.command_texts.proofs.replay.map_after_replay.Goals as goal

pub returns : goal.returns
returns c = record {
  text = ok_then c.text_of_map.result c.text_of_map.ensures.text (λ text lines.
      map_played _ _ _ _ text c.played-replay.ensures.setup c.played-replay.ensures.done c.map.ensures.map
      (rw (← c.ranges-2.ensures.ranges) lines));
}
