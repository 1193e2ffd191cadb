use Rattle.board_chipset.proofs.ChipsetLoads.{one_state}
use Rattle.board_chipset.proofs.saved.law_loaded_is_saved.Goals as goal

pub returns : goal.returns
returns c = record {
  same = λ saved loaded history is of same bytes.
      let one = one_state c.law_same_map.ensures.same saved loaded is of same bytes in
      (λ left. rw one left, λ left. rw one at left);
}
