use Rattle.std.proofs.Common.{rules, append_assoc}
use Rattle.std.proofs.lemmas.Result.{on_ok_weaker, IfOk-equal}
use Rattle.board_chipset.specs.ChipsetState.{registers_bytes}
use Rattle.board_chipset.proofs.registers.Registers.save_state.Goals as goal

pub returns-clause-saved : goal.returns-clause-saved
unfolding registers_bytes
returns-clause-saved c =
    let added = rw c.read.ensures.byte at c.in_ok-push_byte.ensures.added in
    search (rules, IfOk-equal, append_assoc)

pub returns-clause-sound : goal.returns-clause-sound
returns-clause-sound c =
    on_ok_weaker c.save_state-3.result (λ south. λ setup sound. record {
      address = c.save_state.ensures.sound;
      control = c.read.ensures.small;
      map = c.in_ok-save_state-2.ensures.sound setup sound.bytes sound.kept.cards;
      south = south;
    }) c.save_state-3.ensures.sound
