-- What is still to be read, after the cards so far, is all that is read.
use Rattle.std.proofs.Common.{◌≡◌, drop}
use Rattle.arrayvec.specs.ArrayVec.{array_vec_len}
use Rattle.byte_fields.proofs.Loops.{with_front}
use Rattle.addr_decode.specs.State.{cards_fields}
use Rattle.addr_decode.proofs.state.read_cards.Given as goal

abbrev pub invariant-loop-spec : goal.invariant-loop-spec
invariant-loop-spec l = record {
  count : array_vec_len l.cards ≡ l.spec-index;
  read :
      with_front l.cards.items (cards_fields (drop l.spec-index l.specs) l.fields)
      ≡ cards_fields l.specs l.fn.fields;
}
