use Rattle.board_prelude.specs.{Bytes, changed_byte}
use Rattle.promises.proofs.DecodedMaps.{answers_as_decode}
use Rattle.promises.proofs.definitions.map_changed_as_decoded.Goals as goal

pub returns : goal.returns
returns c = record {
  answers = λ setup bytes stands.
      let after : Bytes = λ reg. changed_byte setup c.args.change.now reg (bytes reg) in
      answers_as_decode setup after c.apply.new.self.ranges
      (c.apply.ensures.applied.map setup after (c.apply.ensures.applied.stands setup bytes stands));
}
